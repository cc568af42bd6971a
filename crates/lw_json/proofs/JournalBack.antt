-- A journal of answers over names reads back.
use Rattle.std.proofs.Common.{◌≡◌, ◌≢◌, ◌∙◌, ℕ, ◌<◌, ◌≤◌, ◌^◌, ◌==◌, List, [], ◌∷◌, ◌++◌, true, false, not, codes, decimal, Option, Some, None, option_and_then, length, map, refl, sym, ap, ap₂, subst, arith, append_assoc}
use Rattle.std.specs.Fmt.{digits}
use Rattle.std.specs.List.{All, filter, filter_map, flat_map, last_or, slice_split, cons_option}
use Rattle.std.proofs.lemmas.List.Elements.{All-nil, All-cons, All-head, All-tail, All-map}
use Rattle.std.proofs.lemmas.List.Splits.{slice_split_at, slice_split_none}
use Rattle.json.specs.Token.{Token, begin_array, begin_object, end_array, end_object, key, number, string}
use Rattle.json.specs.Lex.{tokens}
use Rattle.json.specs.Print.{ArePrintable, print}
use Rattle.json.proofs.Printed.Decimals.{IsNumber-decimal}
use Rattle.json.proofs.Printed.Tokens.{tokens-print}
use Rattle.serde_json.specs.Data.{Data, depth}
use Rattle.serde_json.specs.Data as value
use Rattle.serde_json.specs.Read.{max_depth, read}
use Rattle.serde_json.specs.View.{items_of}
use Rattle.serde_json.specs.Written.{WritesItems, WritesValue, compact_text, has_float}
use Rattle.serde_json.proofs.OnLiterals.{serde_json_on_literals}
use Rattle.lw_words.specs.Word.{IsNames, named, word_text}
use Rattle.lw_words.specs.declared.kept.KeptAnswer.{KeptAnswer}
use Rattle.lw_json.specs.AnswersText.{answer_data, run_data}
use Rattle.lw_json.specs.Formats.{AreInputs, WrittenAnswers, each_of, is_object, json_in, line_values, lines, names_of_text, numbered_answer, texts_at, without_repeats, written_answer_of}
use Rattle.lw_json.specs.Journal.{head_data, is_journal}
use Rattle.lw_json.specs.JournalText.{IsLineFront, JournalsReadBack, answer_texts, journal_text, line_text}
use Rattle.lw_json.specs.KeptOver.{AreKeptOver, IsKeptOver}
use Rattle.lw_json.specs.MachineText.{texts_data}
use Rattle.lw_json.proofs.Appearing.{appearing_names}
use Rattle.lw_json.proofs.AnswersRoundTrip.{read_answer, read_kept}
use borrow.Author.Tests.{ne_eqb}
use Rattle.lw_json.proofs.EachLemmas.{no_float_items}
use Rattle.lw_json.proofs.JournalLines.{json_in-none, json_in-some}
use Rattle.lw_json.proofs.PlainTexts.{ArePlain, no_line_feed, plain-head, plain-run, plain-word, utf8-plain}
use Rattle.lw_json.proofs.RoundTrip.{each_of-map, read_texts, shallow}
use Rattle.lw_json.proofs.TokenLemmas.{compact_made, reads_value, writes_end, writes_four, writes_head, writes_item, writes_list, writes_text}
use Rattle.lw_json.proofs.WordTexts.{names_back}

-- a value's compact text is read as it
reads_compact : (d : Data) (ts : List Token) → WritesValue d [] ts → ArePrintable ts → depth d ≤ max_depth → has_float d ≡ false → read (compact_text d) ≡ Some d
reads_compact d ts w printable shallow none =
    let same : tokens (print ts) ≡ ts = tokens-print ts printable in
    subst (λ (t : List ℕ). read t ≡ Some d) (compact_made d ts (print ts) w refl same none) (reads_value d ts (print ts) w same shallow)

run_printable : (a b : ℕ) (s t : List ℕ) → a < 2 ^ 64 → b < 2 ^ 64 → ArePrintable (begin_array ∷ number (decimal a) ∷ number (decimal b) ∷ string s ∷ string t ∷ end_array ∷ [])
unfolding ArePrintable
run_printable a b s t a_small b_small = (tt, (IsNumber-decimal a a_small, (IsNumber-decimal b b_small, (tt, (tt, (tt, tt))))))

pub reads_run : (a b : ℕ) (s t : List ℕ) → a < 2 ^ 64 → b < 2 ^ 64 → read (compact_text (run_data a b s t)) ≡ Some (run_data a b s t)
reads_run a b s t a_small b_small = reads_compact (run_data a b s t) _ (writes_four a b s t [] _ a_small b_small refl) (run_printable a b s t a_small b_small) (omega arith) refl

texts_written : (names : List (List ℕ)) (old : List Token) → WritesItems (items_of (map value.string names)) old (old ++ (map string names ++ end_array ∷ []))
texts_written [] old = writes_end old _ refl
texts_written (n ∷ ns) old =
    writes_item (value.string n) (items_of (map value.string ns)) old (old ++ string n ∷ []) _ (writes_text n old _ refl)
    (subst (λ (end : List Token). WritesItems (items_of (map value.string ns)) (old ++ string n ∷ []) end) (append_assoc old (string n ∷ []) (map string ns ++ end_array ∷ [])) (texts_written ns (old ++ string n ∷ [])))

texts_printable : (names : List (List ℕ)) → ArePrintable ((map string names ++ end_array ∷ []) ++ end_object ∷ [])
unfolding ArePrintable
texts_printable [] = (tt, (tt, tt))
texts_printable (n ∷ ns) = (tt, texts_printable ns)

head_printable : (inputs : List (List ℕ)) → ArePrintable (begin_object ∷ key (codes "format") ∷ number (decimal 3) ∷ key (codes "inputs") ∷ begin_array ∷ ((map string inputs ++ end_array ∷ []) ++ end_object ∷ []))
unfolding ArePrintable
head_printable inputs = (tt, (tt, (IsNumber-decimal 3 (omega arith), (tt, (tt, texts_printable inputs)))))

pub reads_head : (inputs : List (List ℕ)) → read (compact_text (head_data inputs)) ≡ Some (head_data inputs)
reads_head inputs =
    let start : List Token = begin_object ∷ key (codes "format") ∷ number (decimal 3) ∷ key (codes "inputs") ∷ [] in
    let ins : WritesValue (texts_data inputs) start (start ++ begin_array ∷ (map string inputs ++ end_array ∷ [])) = writes_list (items_of (map value.string inputs)) start (start ++ begin_array ∷ []) _ refl (texts_written inputs (start ++ begin_array ∷ [])) in
    let depths = shallow value.string 0 (λ _. omega arith) inputs in
    reads_compact (head_data inputs) (begin_object ∷ key (codes "format") ∷ number (decimal 3) ∷ key (codes "inputs") ∷ begin_array ∷ ((map string inputs ++ end_array ∷ []) ++ end_object ∷ []))
    (writes_head (texts_data inputs) [] (begin_object ∷ []) (begin_object ∷ key (codes "format") ∷ []) (begin_object ∷ key (codes "format") ∷ number (decimal 3) ∷ []) start (start ++ begin_array ∷ (map string inputs ++ end_array ∷ [])) _ refl refl refl refl ins refl)
    (head_printable inputs) (omega arith) (rw (no_float_items value.string (λ _. refl) inputs) refl)

-- the value of a line
record IsLine (d : Data) : Type 0 where
  pub plain : ArePlain (compact_text d)
  pub reads : read (compact_text d) ≡ Some d

nothing_read : read [] ≡ None
unfolding serde_json_on_literals
nothing_read = refl

-- nothing is cut off where a line has ended
pub ended : IsLineFront []
ended = record { open_line = All-nil (λ b. b ≢ 10); no_value = json_in-none [] (λ _. nothing_read) }

one_line : (front : List ℕ) → IsLineFront front → line_values front ≡ []
one_line front cut_off =
    ap (filter_map json_in) (slice_split_none (λ b. b == 10) front (λ k d lt. ne_eqb _ 10 (cut_off.open_line k d lt)))
    ∙ ap (λ (o : Option Data). cons_option o []) cut_off.no_value

lines_back : (front : List ℕ) → IsLineFront front → (ds : List Data) → All IsLine ds → line_values (flat_map line_text ds ++ front) ≡ ds
lines_back front cut_off [] h = one_line front cut_off
lines_back front cut_off (d ∷ ds) h =
    let line = All-head IsLine d ds h in
    let rest : List ℕ = flat_map line_text ds ++ front in
    let split = slice_split (λ b. b == 10) in
    let text : flat_map line_text (d ∷ ds) ++ front ≡ compact_text d ++ 10 ∷ rest =
    append_assoc (line_text d) (flat_map line_text ds) front ∙ append_assoc (compact_text d) (10 ∷ []) rest in
    let cut : split (flat_map line_text (d ∷ ds) ++ front) ≡ compact_text d ∷ split rest = ap split text ∙ slice_split_at (λ b. b == 10) (compact_text d) 10 rest (no_line_feed (compact_text d) line.plain) refl in
    ap (filter_map json_in) cut
    ∙ (ap (λ (o : Option Data). cons_option o (line_values rest)) (json_in-some (compact_text d) d (utf8-plain (compact_text d) line.plain) line.reads)
    ∙ ap (λ (l : List Data). d ∷ l) (lines_back front cut_off ds (All-tail IsLine d ds h)))

begins : (inputs : List (List ℕ)) (rest : List ℕ) → is_journal (line_text (head_data inputs) ++ rest) ≡ true
unfolding serde_json_on_literals digits
begins inputs rest = refl

texts-map : {X : Type 0} (f : X → Data) (xs : List X) → flat_map line_text (map f xs) ≡ flat_map (λ x. line_text (f x)) xs
texts-map f [] = refl
texts-map f (x ∷ xs) = ap (λ (l : List ℕ). line_text (f x) ++ l) (texts-map f xs)

-- runs are no objects
module _ (inputs outputs : List (List ℕ)) where
  no_heads : (ks : List KeptAnswer) → filter is_object (map (answer_data inputs outputs) ks) ≡ []
  no_heads [] = refl
  no_heads (k ∷ ks) = no_heads ks

  all_runs : (ks : List KeptAnswer) → filter (λ d. not (is_object d)) (map (answer_data inputs outputs) ks) ≡ map (answer_data inputs outputs) ks
  all_runs [] = refl
  all_runs (k ∷ ks) = ap (λ (l : List Data). answer_data inputs outputs k ∷ l) (all_runs ks)

  -- the names in the outputs' texts
  names_told : IsNames outputs → (ks : List KeptAnswer) → AreKeptOver (length inputs) (length outputs) ks → flat_map (λ a. names_of_text a.outs) (map (answer_texts inputs outputs) ks) ≡ flat_map (λ k. named outputs k.outs) ks
  names_told names [] over = refl
  names_told names (k ∷ ks) over =
      let P = IsKeptOver (length inputs) (length outputs) in
      ap₂ (λ (a b : List (List ℕ)). a ++ b) (names_back outputs names k.outs (All-head P k ks over).outs) (names_told names ks (All-tail P k ks over))

  line_of : IsNames inputs → IsNames outputs → (k : KeptAnswer) → IsKeptOver (length inputs) (length outputs) k → k.run < 2 ^ 64 → IsLine (answer_data inputs outputs k)
  line_of ins outs k over small =
      let low = over.instance in
      record {
        plain = plain-run k.instance k.run (word_text inputs k.word) (word_text outputs k.outs) (omega arith) small (plain-word inputs ins k.word over.word) (plain-word outputs outs k.outs over.outs);
        reads = reads_run k.instance k.run (word_text inputs k.word) (word_text outputs k.outs) (omega arith) small;
      }

  all_lines : IsNames inputs → IsNames outputs → (ks : List KeptAnswer) → AreKeptOver (length inputs) (length outputs) ks → All (λ k. k.run < 2 ^ 64) ks → All IsLine (map (answer_data inputs outputs) ks)
  all_lines ins outs ks over small = All-map IsLine (answer_data inputs outputs) ks (λ i d lt. line_of ins outs _ (over i d lt) (small i d lt))

pub journals_read_back : JournalsReadBack
journals_read_back inputs outputs ks front a ins outs over small appear cut_off of =
    let ds : List Data = head_data inputs ∷ map (answer_data inputs outputs) ks in
    let w : WrittenAnswers = record { inputs = inputs; outputs = a.outputs; answers = map (answer_texts inputs outputs) ks } in
    let head : IsLine (head_data inputs) = record { plain = plain-head inputs ins.0.each; reads = reads_head inputs } in
    let each : All IsLine ds = All-cons IsLine (head_data inputs) (map (answer_data inputs outputs) ks) head (all_lines inputs outputs ins.0 outs ks over small) in
    let text : journal_text inputs outputs ks ≡ flat_map line_text ds = ap (λ (l : List ℕ). line_text (head_data inputs) ++ l) (sym (texts-map (answer_data inputs outputs) ks)) in
    let rest : List ℕ = flat_map (λ k. line_text (answer_data inputs outputs k)) ks in
    let begun : is_journal (journal_text inputs outputs ks ++ front) ≡ true = ap is_journal (append_assoc (line_text (head_data inputs)) rest front) ∙ begins inputs (rest ++ front) in
    let told : IsNames a.outputs = subst (λ (l : List (List ℕ)). IsNames l) (sym of.outputs_same) (appearing_names outputs outs (length inputs) ks over appear) in
    let own : AreKeptOver (length inputs) (length a.outputs) a.kept.answers = subst (λ (i : List (List ℕ)). AreKeptOver (length i) (length a.outputs) a.kept.answers) of.inputs_same a.over in
    let spelt : each_of (numbered_answer inputs a.outputs) w.answers ≡ Some a.kept.answers =
    ap (each_of (numbered_answer inputs a.outputs)) (sym of.answers_same) ∙ read_kept inputs a.outputs ins.0 told a.kept.answers own in (
      lines ds,
      (begun, ap (λ (l : List ℕ). line_values (l ++ front)) text ∙ lines_back front cut_off ds each),
      (
        w,
        record {
          inputs = ap (λ (l : List Data). option_and_then (texts_at (codes "inputs")) (last_or None (head_data inputs ∷ l))) (no_heads inputs outputs ks) ∙ read_texts inputs;
          outputs = ap without_repeats (names_told inputs outputs outs ks over) ∙ sym of.outputs_same;
          answers = ap (each_of written_answer_of) (all_runs inputs outputs ks) ∙ each_of-map (answer_data inputs outputs) written_answer_of (answer_texts inputs outputs) (IsKeptOver (length inputs) (length outputs)) (read_answer inputs outputs) ks over;
        },
        record {
          inputs = sym of.inputs_same;
          outputs = refl;
          answers = subst (λ (i : List (List ℕ)). each_of (numbered_answer i a.outputs) w.answers ≡ Some a.kept.answers) (sym of.inputs_same) spelt;
          even = λ k d below. (a.over k d below).even;
          inputs_named = subst (λ (i : List (List ℕ)). AreInputs i) (sym of.inputs_same) ins;
          outputs_named = told;
        },
      ),
    )

-- Values that are put to a writer of JSON token by token are written as the library writes them.
use Rattle.std.proofs.Common.{◌≡◌, ℕ, ◌<◌, ◌≤◌, ◌^◌, List, [], ◌∷◌, ◌++◌, false, Option, Some, codes, decimal, option_map, option_and_then, refl, sym, ap, ap₂, ◌∙◌, arith, append_assoc, append-nil}
use Rattle.json.specs.Token.{Token, begin_array, begin_object, end_array, end_object, key, number, string}
use Rattle.json.specs.Json as json
use Rattle.json.specs.Lex.{tokens}
use Rattle.json.specs.Print.{print}
use Rattle.json.specs.Tree as tree
use Rattle.json.proofs.Printed.Trees.{value-json_tokens}
use Rattle.serde_json.specs.Data.{Data, Items, depth, item, member, no_items, no_members, unsigned, array, object}
use Rattle.serde_json.specs.Data as value
use Rattle.serde_json.specs.Read.{max_depth, of_items, of_json, read}
use Rattle.serde_json.specs.View.{items_of}
use Rattle.serde_json.specs.Written.{IsInOrder, WritesItems, WritesValue, compact_text, has_float, unless_float}
use Rattle.serde_json.proofs.Numbers.{number_of-decimal}
use Rattle.serde_json.proofs.OnLiterals.{serde_json_on_literals}
use Rattle.serde_json.proofs.Texts.{print-outline, tokens_from_order, unless_float-number_of}

-- what stands behind something that stands behind the start
pub behind : {T : Type 0} (start first now then end : List T) → now ≡ start ++ first → end ≡ now ++ then → end ≡ start ++ (first ++ then)
behind start first now then end h more = more ∙ ap (λ l. l ++ then) h ∙ append_assoc start first then

-- a number's text has no float's
pub plain_number : (n : ℕ) → n < 2 ^ 64 → unless_float (decimal n) ≡ decimal n
plain_number n small = unless_float-number_of (decimal n) (unsigned n) (number_of-decimal n small)

-- a list of two numbers and two texts
pub writes_four : (a b : ℕ) (s t : List ℕ) (old new : List Token) → a < 2 ^ 64 → b < 2 ^ 64
    → new ≡ old ++ begin_array ∷ number (decimal a) ∷ number (decimal b) ∷ string s ∷ string t ∷ end_array ∷ []
    → WritesValue (array (items_of (value.number (unsigned a) ∷ value.number (unsigned b) ∷ value.string s ∷ value.string t ∷ []))) old new
writes_four a b s t old new a_small b_small put = (
  json.array (json.item (json.number (decimal a)) (json.item (json.number (decimal b)) (json.item (json.string s) (json.item (json.string t) json.no_items)))),
  put,
  rw (number_of-decimal a a_small, number_of-decimal b b_small) refl,
  omega arith,
  rw (plain_number a a_small, plain_number b b_small) refl,
)

-- the start of a list, and all that follows
pub writes_list : (ds : Items) (old mid end : List Token) → mid ≡ old ++ begin_array ∷ [] → WritesItems ds mid end → WritesValue (array ds) old end
writes_list ds old mid end opened w = (
  json.array w.0,
  behind old (begin_array ∷ []) mid (tree.items_tokens w.0) end opened w.1,
  ap (option_map array) w.2,
  omega (arith, w.3),
  ap json.array w.4,
)

-- an item before others
pub writes_item : (d : Data) (ds : Items) (old mid end : List Token) → WritesValue d old mid → WritesItems ds mid end → WritesItems (item d ds) old end
writes_item d ds old mid end w rest = (
  json.item w.0 rest.0,
  behind old (tree.json_tokens w.0) mid (tree.items_tokens rest.0) end w.1 rest.1,
  ap (option_and_then (λ e. option_map (item e) (of_items rest.0))) w.2 ∙ ap (option_map (item d)) rest.2,
  omega (arith, w.3, rest.3),
  ap₂ json.item w.4 rest.4,
)

-- no further item
pub writes_end : (old end : List Token) → end ≡ old ++ end_array ∷ [] → WritesItems no_items old end
writes_end old end closed = (json.no_items, closed, refl, omega arith, refl)

-- a text
pub writes_text : (s : List ℕ) (old new : List Token) → new ≡ old ++ string s ∷ [] → WritesValue (value.string s) old new
writes_text s old new put = (json.string s, put, refl, omega arith, refl)

-- the members of an answers file, each behind its key
pub writes_file : (list ins outs : Data) (a b c d e f g h i j k : List Token)
    → b ≡ a ++ begin_object ∷ [] → c ≡ b ++ key (codes "answers") ∷ [] → WritesValue list c d
    → e ≡ d ++ key (codes "format") ∷ [] → f ≡ e ++ number (decimal 2) ∷ []
    → g ≡ f ++ key (codes "inputs") ∷ [] → WritesValue ins g h
    → i ≡ h ++ key (codes "outputs") ∷ [] → WritesValue outs i j
    → k ≡ j ++ end_object ∷ []
    → WritesValue (object (member (codes "answers") list (member (codes "format") (value.number (unsigned 2)) (member (codes "inputs") ins (member (codes "outputs") outs no_members))))) a k
unfolding serde_json_on_literals
writes_file list ins outs a b c d e f g h i j k opened first l second two third m fourth n closed =
    let small : 2 < 2 ^ 64 = omega arith in
    let from_j = closed in
    let from_i = behind i (tree.json_tokens n.0) j (end_object ∷ []) k n.1 from_j in
    let from_h = behind h (key (codes "outputs") ∷ []) i _ k fourth from_i in
    let from_g = behind g (tree.json_tokens m.0) h _ k m.1 from_h in
    let from_f = behind f (key (codes "inputs") ∷ []) g _ k third from_g in
    let from_e = behind e (number (decimal 2) ∷ []) f _ k two from_f in
    let from_d = behind d (key (codes "format") ∷ []) e _ k second from_e in
    let from_c = behind c (tree.json_tokens l.0) d _ k l.1 from_d in
    let from_b = behind b (key (codes "answers") ∷ []) c _ k first from_c in (
      json.object (json.member (codes "answers") l.0 (json.member (codes "format") (json.number (decimal 2)) (json.member (codes "inputs") m.0 (json.member (codes "outputs") n.0 json.no_members)))),
      behind a (begin_object ∷ []) b _ k opened from_b,
      rw (l.2, number_of-decimal 2 small, m.2, n.2) refl,
      omega (arith, l.3, m.3, n.3),
      rw (l.4, plain_number 2 small, m.4, n.4) refl,
    )

-- the members of a journal's head, each behind its key
pub writes_head : (ins : Data) (a b c d e f g : List Token)
    → b ≡ a ++ begin_object ∷ [] → c ≡ b ++ key (codes "format") ∷ [] → d ≡ c ++ number (decimal 3) ∷ []
    → e ≡ d ++ key (codes "inputs") ∷ [] → WritesValue ins e f
    → g ≡ f ++ end_object ∷ []
    → WritesValue (object (member (codes "format") (value.number (unsigned 3)) (member (codes "inputs") ins no_members))) a g
unfolding serde_json_on_literals
writes_head ins a b c d e f g opened first three second m closed =
    let small : 3 < 2 ^ 64 = omega arith in
    let from_e = behind e (tree.json_tokens m.0) f (end_object ∷ []) g m.1 closed in
    let from_d = behind d (key (codes "inputs") ∷ []) e _ g second from_e in
    let from_c = behind c (number (decimal 3) ∷ []) d _ g three from_d in
    let from_b = behind b (key (codes "format") ∷ []) c _ g first from_c in (
      json.object (json.member (codes "format") (json.number (decimal 3)) (json.member (codes "inputs") m.0 json.no_members)),
      behind a (begin_object ∷ []) b _ g opened from_b,
      rw (number_of-decimal 3 small, m.2) refl,
      omega (arith, m.3),
      rw (plain_number 3 small, m.4) refl,
    )

-- the text of a value's tokens, which has no float, is the compact one
pub compact_made : (d : Data) (ts : List Token) (made : List ℕ) → WritesValue d [] ts → made ≡ print ts → tokens made ≡ ts → has_float d ≡ false → made ≡ compact_text d
compact_made d ts made w text same none =
    let order : IsInOrder made d = (w.0, same ∙ w.1, w.4) in
    text ∙ ap print (sym same) ∙ ap print (tokens_from_order made d order none) ∙ print-outline d

-- what is read of tokens
whole : Option (json.Json × List Token) → Option Data
whole r = option_and_then of_json (option_and_then (λ p. json.if_last p.0 p.1) r)

-- a text of a value's tokens alone is read as the value
pub reads_value : (d : Data) (ts : List Token) (text : List ℕ) → WritesValue d [] ts → tokens text ≡ ts → depth d ≤ max_depth → read text ≡ Some d
unfolding whole
reads_value d ts text w same shallow =
    ap whole (ap (json.value max_depth) (same ∙ w.1 ∙ sym (append-nil _)) ∙ value-json_tokens w.0 max_depth [] (omega (arith, w.3))) ∙ w.2

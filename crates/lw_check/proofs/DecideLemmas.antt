-- A pair comes to one outcome.
use Rattle.std.proofs.Common.{◌≡◌, ℕ, ◌+◌, ◌<◌, ◌≤◌, ◌⊎◌, ⊎_elim, List, [], ◌++◌, length, take, drop, min, get_or, sym, ap, ◌∙◌, subst, arith}
use Rattle.std.proofs.lemmas.Bool.{cases_order}
use Rattle.std.proofs.lemmas.List.{length-take, get_or-take, take-append-drop, take_all}
use Rattle.lw_words.specs.Word.{Answer, answer_at, answers_of, IsPrefix}
use Rattle.lw_cache.specs.Clash.{ClashAt, NothingClashes}
use Rattle.lw_cache.specs.FirstClash.{ClashesFirst, IsFirstClash}
use Rattle.lw_cache.specs.declared.stops.Clash.{Clash as Found}
use Rattle.lw_chunks.specs.declared.method.Method.{Method}
use Rattle.lw_certify.specs.declared.verdict.Verdict.{Verdict}
use Rattle.lw_certify.specs.declared.verdict.Verdict.TheVariants as verdict
use Rattle.lw_certify.proofs.OneVerdict.{one_verdict}
use Rattle.lw_check.specs.Decision.{Pair, SameNames, HasVerdict, IsNo, IsDecision, OneDecision}
use Rattle.lw_report.specs.declared.role.Role.{Role}
use Rattle.lw_report.specs.declared.role.Role.TheVariants.{Answers}
use Rattle.lw_report.specs.declared.outcome.Outcome.{Outcome}
use Rattle.lw_report.specs.declared.outcome.Outcome.TheVariants.{Learned, Trial, Yes, Served, No, Usage, BadFile, Alphabets, FileTooLong, Nondeterministic, NoMemory, SulFailed, Gone, BadLine, BadAsk, TooManyStates, SuiteTooLarge, FileFault, SourceFault, SinkFault, Compared, Asked, Helped, Rechecked, UnknownLetter, Unstarted, Accepted, BadAcceptor, NotAcceptor}

blank : Answer
blank = record { word = []; outs = [] }

clash_within : (ks : List Answer) (c : Found) (n : ℕ) → IsFirstClash ks c → c.second < n → NothingClashes (take n ks) → ⊥
clash_within ks c n f lt none =
    let short : length (take c.second ks) ≡ min c.second (length ks) = length-take c.second ks in
    let long : length (take n ks) ≡ min n (length ks) = length-take n ks in
    let w = f.within in
    let in_front = f.here.clear.0 in
    let below : c.first < c.second = omega arith in
    let first : get_or (take n ks) c.first (record { word = []; outs = [] }) ≡ answer_at (take c.second ks) c.first = get_or-take n ks c.first (record { word = []; outs = [] }) (omega arith) ∙ sym (get_or-take c.second ks c.first (record { word = []; outs = [] }) below) in
    let second : get_or (take n ks) c.second (record { word = []; outs = [] }) ≡ answer_at ks c.second = get_or-take n ks c.second (record { word = []; outs = [] }) lt in
    none c.first c.second (record { word = []; outs = [] }) below (omega arith) (rw (first, second) (c.place, f.here.here))

clash_not_nothing : (ks : List Answer) (c : Found) → IsFirstClash ks c → NothingClashes ks → ⊥
clash_not_nothing ks c f none = clash_within ks c (length ks) f f.within (rw (take_all (length ks) ks (omega arith)) none)

pub begins_with : (k l : Answer) (p : ℕ) → ClashAt k l p → IsPrefix (take (p + 1) l.word) k.word
begins_with k l p c = (drop (p + 1) k.word, sym (take-append-drop (p + 1) k.word) ∙ ap (λ (u : List ℕ). u ++ drop (p + 1) k.word) c.letters)

abbrev pub found_of : ℕ → ℕ → ℕ → Found
found_of first second place = record { first = first; second = second; place = place }

one_clash : (ks : List Answer) (c d : Found) → IsFirstClash ks c → IsFirstClash ks d → c ≡ d
one_clash ks c d f g =
    let second : c.second ≡ d.second = ⊎_elim (λ (e : c.second ≡ d.second). e) (λ (r : (c.second < d.second) ⊎ (d.second < c.second)).
    ⊎_elim (λ (lt : c.second < d.second). absurd (clash_within ks c d.second f lt g.before)) (λ (gt : d.second < c.second). absurd (clash_within ks d c.second g gt f.before)) r) (cases_order c.second d.second) in
    let f' : ClashesFirst (take d.second ks) (answer_at ks d.second) c = subst (λ (n : ℕ). ClashesFirst (take n ks) (answer_at ks n) c) second f.here in
    let g' = g.here in
    let le : c.place ≤ d.place = f'.place d.first d.place g'.clear g'.here in
    let ge : d.place ≤ c.place = g'.place c.first c.place f'.clear f'.here in
    let place : c.place ≡ d.place = omega arith in
    let before_d : IsPrefix (take (d.place + 1) (answer_at ks d.second).word) (answer_at (take d.second ks) d.first).word = begins_with (answer_at (take d.second ks) d.first) (answer_at ks d.second) d.place g'.here in
    let before_c : IsPrefix (take (c.place + 1) (answer_at ks d.second).word) (answer_at (take d.second ks) c.first).word = begins_with (answer_at (take d.second ks) c.first) (answer_at ks d.second) c.place f'.here in
    let up : c.first ≤ d.first = f'.first d.first g'.clear (subst (λ (p : ℕ). IsPrefix (take (p + 1) (answer_at ks d.second).word) (answer_at (take d.second ks) d.first).word) (sym place) before_d) in
    let down : d.first ≤ c.first = g'.first c.first f'.clear (subst (λ (p : ℕ). IsPrefix (take (p + 1) (answer_at ks d.second).word) (answer_at (take d.second ks) c.first).word) place before_c) in
    let first : c.first ≡ d.first = omega arith in
    ap (λ (n : ℕ). found_of n c.second c.place) first ∙ (ap (λ (n : ℕ). found_of d.first n c.place) second ∙ ap (λ (n : ℕ). found_of d.first d.second n) place)

module _ (method : Method) (p : Pair) (extra : ℕ) where
  same_verdict : (v w : Verdict) → HasVerdict method p extra v → HasVerdict method p extra w → v ≡ w
  same_verdict v w f g = one_verdict method p.mealy.inputs p.mealy.rows (answers_of p.kept) extra v w f.2 g.2

  yes_is : (n : ℕ) (two : Outcome) → IsDecision method p extra (Yes n) → IsDecision method p extra two → Yes n ≡ two
  yes_is n (Yes m) f g = ap (λ (s : ℕ). Yes s) (f.1 ∙ sym g.1)
  yes_is n (No v) f g = absurd (subst IsNo (sym (same_verdict verdict.Sure v f.0 g.0)) g.1)
  yes_is n (Alphabets role) f g = absurd (g.1 f.0.0)
  yes_is n (Nondeterministic c) f g = absurd (clash_not_nothing (answers_of p.kept) c g.1 f.0.1)
  yes_is n (SuiteTooLarge m s) f g = let e : verdict.Sure ≡ verdict.TooLarge s = same_verdict verdict.Sure (verdict.TooLarge s) f.0 g.0 in absurd (cc)
  yes_is n (Learned h r) f g = absurd g
  yes_is n (Trial tried) f g = absurd g
  yes_is n Usage f g = absurd g
  yes_is n (Served served) f g = absurd g
  yes_is n (SulFailed instance) f g = absurd g
  yes_is n (Gone instance) f g = absurd g
  yes_is n (BadLine instance line) f g = absurd g
  yes_is n (BadAsk number) f g = absurd g
  yes_is n SourceFault f g = absurd g
  yes_is n (Compared comparison) f g = absurd g
  yes_is n Asked f g = absurd g
  yes_is n Helped f g = absurd g
  yes_is n (Rechecked count) f g = absurd g
  yes_is n (Accepted states refinements) f g = absurd g
  yes_is n (BadAcceptor bad) f g = absurd g
  yes_is n (NotAcceptor state letter) f g = absurd g
  yes_is n (UnknownLetter w place) f g = absurd g
  yes_is n (Unstarted cause) f g = absurd g
  yes_is n (BadFile r b) f g = absurd g
  yes_is n (FileTooLong r) f g = absurd g
  yes_is n NoMemory f g = absurd g
  yes_is n (TooManyStates ws) f g = absurd g
  yes_is n (FileFault r) f g = absurd g
  yes_is n SinkFault f g = absurd g

  no_is : (v : Verdict) (two : Outcome) → IsDecision method p extra (No v) → IsDecision method p extra two → No v ≡ two
  no_is v (Yes m) f g = absurd (subst IsNo (same_verdict v verdict.Sure f.0 g.0) f.1)
  no_is v (No w) f g = ap (λ (u : Verdict). No u) (same_verdict v w f.0 g.0)
  no_is v (Alphabets role) f g = absurd (g.1 f.0.0)
  no_is v (Nondeterministic c) f g = absurd (clash_not_nothing (answers_of p.kept) c g.1 f.0.1)
  no_is v (SuiteTooLarge m s) f g = absurd (subst IsNo (same_verdict v (verdict.TooLarge s) f.0 g.0) f.1)
  no_is v (Learned h r) f g = absurd g
  no_is v (Trial tried) f g = absurd g
  no_is v Usage f g = absurd g
  no_is v (Served served) f g = absurd g
  no_is v (SulFailed instance) f g = absurd g
  no_is v (Gone instance) f g = absurd g
  no_is v (BadLine instance line) f g = absurd g
  no_is v (BadAsk number) f g = absurd g
  no_is v SourceFault f g = absurd g
  no_is v (Compared comparison) f g = absurd g
  no_is v Asked f g = absurd g
  no_is v Helped f g = absurd g
  no_is v (Rechecked count) f g = absurd g
  no_is v (Accepted states refinements) f g = absurd g
  no_is v (BadAcceptor bad) f g = absurd g
  no_is v (NotAcceptor state letter) f g = absurd g
  no_is v (UnknownLetter w place) f g = absurd g
  no_is v (Unstarted cause) f g = absurd g
  no_is v (BadFile r b) f g = absurd g
  no_is v (FileTooLong r) f g = absurd g
  no_is v NoMemory f g = absurd g
  no_is v (TooManyStates ws) f g = absurd g
  no_is v (FileFault r) f g = absurd g
  no_is v SinkFault f g = absurd g

  suite_is : (n s : ℕ) (two : Outcome) → IsDecision method p extra (SuiteTooLarge n s) → IsDecision method p extra two → SuiteTooLarge n s ≡ two
  suite_is n s (Yes m) f g = let e : verdict.TooLarge s ≡ verdict.Sure = same_verdict (verdict.TooLarge s) verdict.Sure f.0 g.0 in absurd (cc)
  suite_is n s (No v) f g = absurd (subst IsNo (sym (same_verdict (verdict.TooLarge s) v f.0 g.0)) g.1)
  suite_is n s (Alphabets role) f g = absurd (g.1 f.0.0)
  suite_is n s (Nondeterministic c) f g = absurd (clash_not_nothing (answers_of p.kept) c g.1 f.0.1)
  suite_is n s (SuiteTooLarge m t) f g =
      let e : verdict.TooLarge s ≡ verdict.TooLarge t = same_verdict (verdict.TooLarge s) (verdict.TooLarge t) f.0 g.0 in
      let same : s ≡ t = cc in
      ap (λ (k : ℕ). SuiteTooLarge k s) (f.1 ∙ sym g.1) ∙ ap (λ (k : ℕ). SuiteTooLarge m k) same
  suite_is n s (Learned h r) f g = absurd g
  suite_is n s (Trial tried) f g = absurd g
  suite_is n s Usage f g = absurd g
  suite_is n s (Served served) f g = absurd g
  suite_is n s (SulFailed instance) f g = absurd g
  suite_is n s (Gone instance) f g = absurd g
  suite_is n s (BadLine instance line) f g = absurd g
  suite_is n s (BadAsk number) f g = absurd g
  suite_is n s SourceFault f g = absurd g
  suite_is n s (Compared comparison) f g = absurd g
  suite_is n s Asked f g = absurd g
  suite_is n s Helped f g = absurd g
  suite_is n s (Rechecked count) f g = absurd g
  suite_is n s (Accepted states refinements) f g = absurd g
  suite_is n s (BadAcceptor bad) f g = absurd g
  suite_is n s (NotAcceptor state letter) f g = absurd g
  suite_is n s (UnknownLetter w place) f g = absurd g
  suite_is n s (Unstarted cause) f g = absurd g
  suite_is n s (BadFile r b) f g = absurd g
  suite_is n s (FileTooLong r) f g = absurd g
  suite_is n s NoMemory f g = absurd g
  suite_is n s (TooManyStates ws) f g = absurd g
  suite_is n s (FileFault r) f g = absurd g
  suite_is n s SinkFault f g = absurd g

  other_names_is : (two : Outcome) → ¬ SameNames p → IsDecision method p extra two → Alphabets Answers ≡ two
  other_names_is (Yes m) f g = absurd (f g.0.0)
  other_names_is (No v) f g = absurd (f g.0.0)
  other_names_is (Alphabets role) f g = ap (λ (r : Role). Alphabets r) (sym g.0)
  other_names_is (Nondeterministic c) f g = absurd (f g.0)
  other_names_is (SuiteTooLarge m t) f g = absurd (f g.0.0)
  other_names_is (Learned h r) f g = absurd g
  other_names_is (Trial tried) f g = absurd g
  other_names_is Usage f g = absurd g
  other_names_is (Served served) f g = absurd g
  other_names_is (SulFailed instance) f g = absurd g
  other_names_is (Gone instance) f g = absurd g
  other_names_is (BadLine instance line) f g = absurd g
  other_names_is (BadAsk number) f g = absurd g
  other_names_is SourceFault f g = absurd g
  other_names_is (Compared comparison) f g = absurd g
  other_names_is Asked f g = absurd g
  other_names_is Helped f g = absurd g
  other_names_is (Rechecked count) f g = absurd g
  other_names_is (Accepted states refinements) f g = absurd g
  other_names_is (BadAcceptor bad) f g = absurd g
  other_names_is (NotAcceptor state letter) f g = absurd g
  other_names_is (UnknownLetter w place) f g = absurd g
  other_names_is (Unstarted cause) f g = absurd g
  other_names_is (BadFile r b) f g = absurd g
  other_names_is (FileTooLong r) f g = absurd g
  other_names_is NoMemory f g = absurd g
  other_names_is (TooManyStates ws) f g = absurd g
  other_names_is (FileFault r) f g = absurd g
  other_names_is SinkFault f g = absurd g

  clash_is : (c : Found) (two : Outcome) → IsDecision method p extra (Nondeterministic c) → IsDecision method p extra two → Nondeterministic c ≡ two
  clash_is c (Yes m) f g = absurd (clash_not_nothing (answers_of p.kept) c f.1 g.0.1)
  clash_is c (No v) f g = absurd (clash_not_nothing (answers_of p.kept) c f.1 g.0.1)
  clash_is c (Alphabets role) f g = absurd (g.1 f.0)
  clash_is c (Nondeterministic d) f g = ap (λ (k : Found). Nondeterministic k) (one_clash (answers_of p.kept) c d f.1 g.1)
  clash_is c (SuiteTooLarge m t) f g = absurd (clash_not_nothing (answers_of p.kept) c f.1 g.0.1)
  clash_is c (Learned h r) f g = absurd g
  clash_is c (Trial tried) f g = absurd g
  clash_is c Usage f g = absurd g
  clash_is c (Served served) f g = absurd g
  clash_is c (SulFailed instance) f g = absurd g
  clash_is c (Gone instance) f g = absurd g
  clash_is c (BadLine instance line) f g = absurd g
  clash_is c (BadAsk number) f g = absurd g
  clash_is c SourceFault f g = absurd g
  clash_is c (Compared comparison) f g = absurd g
  clash_is c Asked f g = absurd g
  clash_is c Helped f g = absurd g
  clash_is c (Rechecked count) f g = absurd g
  clash_is c (Accepted states refinements) f g = absurd g
  clash_is c (BadAcceptor bad) f g = absurd g
  clash_is c (NotAcceptor state letter) f g = absurd g
  clash_is c (UnknownLetter w place) f g = absurd g
  clash_is c (Unstarted cause) f g = absurd g
  clash_is c (BadFile r b) f g = absurd g
  clash_is c (FileTooLong r) f g = absurd g
  clash_is c NoMemory f g = absurd g
  clash_is c (TooManyStates ws) f g = absurd g
  clash_is c (FileFault r) f g = absurd g
  clash_is c SinkFault f g = absurd g

pub one_decision : OneDecision
one_decision method p extra (Yes n) two f g = yes_is method p extra n two f g
one_decision method p extra (No v) two f g = no_is method p extra v two f g
one_decision method p extra (Alphabets role) two f g = ap (λ (r : Role). Alphabets r) f.0 ∙ other_names_is method p extra two f.1 g
one_decision method p extra (Nondeterministic c) two f g = clash_is method p extra c two f g
one_decision method p extra (SuiteTooLarge n s) two f g = suite_is method p extra n s two f g
one_decision method p extra (Learned h r) two f g = absurd f
one_decision method p extra (Trial tried) two f g = absurd f
one_decision method p extra Usage two f g = absurd f
one_decision method p extra (Served served) two f g = absurd f
one_decision method p extra (SulFailed instance) two f g = absurd f
one_decision method p extra (Gone instance) two f g = absurd f
one_decision method p extra (BadLine instance line) two f g = absurd f
one_decision method p extra (BadAsk number) two f g = absurd f
one_decision method p extra SourceFault two f g = absurd f
one_decision method p extra (Compared comparison) two f g = absurd f
one_decision method p extra Asked two f g = absurd f
one_decision method p extra Helped two f g = absurd f
one_decision method p extra (Rechecked count) two f g = absurd f
one_decision method p extra (Accepted states refinements) two f g = absurd f
one_decision method p extra (BadAcceptor bad) two f g = absurd f
one_decision method p extra (NotAcceptor state letter) two f g = absurd f
one_decision method p extra (UnknownLetter w place) two f g = absurd f
one_decision method p extra (Unstarted cause) two f g = absurd f
one_decision method p extra (BadFile r b) two f g = absurd f
one_decision method p extra (FileTooLong r) two f g = absurd f
one_decision method p extra NoMemory two f g = absurd f
one_decision method p extra (TooManyStates ws) two f g = absurd f
one_decision method p extra (FileFault r) two f g = absurd f
one_decision method p extra SinkFault two f g = absurd f

-- The compact texts of a head and of a run over names are printable ASCII.
use Rattle.std.proofs.Common.{◌≡◌, ◌∙◌, ℕ, ◌<◌, ◌≤◌, ◌^◌, ◌==◌, inl, inr, List, [], ◌∷◌, ◌++◌, Bool, true, false, ◌&&◌, nat_lt, codes, decimal, length, map, refl, sym, ap, subst, arith, append_assoc}
use Rattle.std.specs.Fmt.{digits}
use Rattle.std.specs.List.{All, flat_map}
use Rattle.std.specs.Str.{IsUtf8}
use Rattle.std.specs.Str.Parse.{AllDigits}
use Rattle.std.proofs.lemmas.Bool.{and_parts, cases_eq}
use Rattle.std.proofs.lemmas.Bool.Decides.{Decides-ltb}
use Rattle.std.proofs.lemmas.Fmt.{decimal_is_IsNumeral}
use Rattle.std.proofs.lemmas.List.Elements.{All-nil, All-cons, All-append, All-head, All-tail}
use Rattle.std.proofs.lemmas.Str.Parse.{tells_digits}
use Rattle.json.specs.Print.{escape, escape_byte, quoted}
use Rattle.json.proofs.Printed.Strings.{escape_byte_plain}
use Rattle.json.proofs.Printed.Utf8.{are_ascii, IsUtf8-are_ascii}
use Rattle.serde_json.specs.Data.{string}
use Rattle.serde_json.specs.View.{items_of}
use Rattle.serde_json.specs.Written.{compact_text, comma_if, items_text}
use Rattle.serde_json.proofs.OnLiterals.{serde_json_on_literals}
use Rattle.lw_words.specs.Word.{IsName, IsNames, IsWord, name_at, word_text}
use Rattle.lw_json.specs.AnswersText.{run_data}
use Rattle.lw_json.specs.Journal.{head_data}
use borrow.Author.Tests.{ne_eqb}

abbrev pub IsPlain : ℕ → Type 0
IsPlain b = (32 ≤ b) × (b < 127)

abbrev pub ArePlain : List ℕ → Type 0
ArePlain bs = All IsPlain bs

-- a text without a line feed, and UTF-8
pub no_line_feed : (bs : List ℕ) → ArePlain bs → All (λ b. (b == 10) ≡ false) bs
no_line_feed bs h k d lt = let p = h k d lt in ne_eqb _ 10 (λ e. omega (arith, p.0, e))

are_ascii-plain : (bs : List ℕ) → ArePlain bs → are_ascii bs ≡ true
are_ascii-plain [] h = refl
are_ascii-plain (b ∷ bs) h =
    let p = All-head IsPlain b bs h in
    ap (λ (x : Bool). x && are_ascii bs) ((Decides-ltb b 128).1 (omega (arith, p.1))) ∙ are_ascii-plain bs (All-tail IsPlain b bs h)

pub utf8-plain : (bs : List ℕ) → ArePlain bs → IsUtf8 bs
utf8-plain bs h = IsUtf8-are_ascii bs (are_ascii-plain bs h)

-- a text that is written out
abbrev are_plain : List ℕ → Bool
are_plain [] = true
are_plain (b ∷ bs) = (nat_lt 31 b && nat_lt b 127) && are_plain bs

pub literal : (bs : List ℕ) → are_plain bs ≡ true → ArePlain bs
literal [] e = All-nil IsPlain
literal (b ∷ bs) e =
    let p = and_parts _ _ e in
    let q = and_parts _ _ p.0 in
    All-cons IsPlain b bs (let low = (Decides-ltb 31 b).0 q.0 in omega (arith, low), (Decides-ltb b 127).0 q.1) (literal bs p.1)

pub plain-one : (b : ℕ) → are_plain (b ∷ []) ≡ true → (bs : List ℕ) → ArePlain bs → ArePlain (b ∷ bs)
plain-one b e bs h = All-append IsPlain (b ∷ []) bs (literal (b ∷ []) e) h

plain-digits : (ds : List ℕ) → AllDigits 10 ds → ArePlain ds
plain-digits [] h = All-nil IsPlain
plain-digits (c ∷ cs) h =
    let p = tells_digits.parts c cs h in
    let d = p.0 in
    All-cons IsPlain c cs (omega arith, omega arith) (plain-digits cs p.1)

pub plain-decimal : (n : ℕ) → n < 2 ^ 64 → ArePlain (decimal n)
plain-decimal n small = plain-digits (decimal n) (decimal_is_IsNumeral n small).0.1

quote_plain : ArePlain (escape_byte 34)
unfolding escape_byte
quote_plain = literal (92 ∷ 34 ∷ []) refl

backslash_plain : ArePlain (escape_byte 92)
unfolding escape_byte
backslash_plain = literal (92 ∷ 92 ∷ []) refl

plain-escape_byte : (b : ℕ) → IsPlain b → ArePlain (escape_byte b)
plain-escape_byte b p =
    elim (cases_eq b 34) [
      | inl e ↦ subst (λ x. ArePlain (escape_byte x)) (sym e) quote_plain
      | inr q ↦ elim (cases_eq b 92) [
        | inl e ↦ subst (λ x. ArePlain (escape_byte x)) (sym e) backslash_plain
        | inr s ↦ subst ArePlain (sym (escape_byte_plain b q s p.0)) (All-cons IsPlain b [] p (All-nil IsPlain))
      ]
    ]

plain-escape : (s : List ℕ) → ArePlain s → ArePlain (escape s)
plain-escape [] h = All-nil IsPlain
plain-escape (b ∷ s) h = All-append IsPlain (escape_byte b) (escape s) (plain-escape_byte b (All-head IsPlain b s h)) (plain-escape s (All-tail IsPlain b s h))

pub plain-quoted : (s rest : List ℕ) → ArePlain s → ArePlain rest → ArePlain (quoted s ++ rest)
plain-quoted s rest h more =
    All-append IsPlain (quoted s) rest (plain-one 34 refl (escape s ++ 34 ∷ []) (All-append IsPlain (escape s) (34 ∷ []) (plain-escape s h) (literal (34 ∷ []) refl))) more

-- names, and words of them
pub plain-name : (name : List ℕ) → IsName name → ArePlain name
plain-name name h k d lt = let p = h.printable k d lt in (omega (arith, p.0), omega (arith, p.1))

module _ (names : List (List ℕ)) (named : IsNames names) where
  letter : (x : ℕ) → x < length names → ArePlain (name_at names x)
  letter x lt = plain-name (name_at names x) (named.each x [] lt)

  letters : (w : List ℕ) → IsWord (length names) w → ArePlain (flat_map (λ y. codes " " ++ name_at names y) w)
  letters [] h = All-nil IsPlain
  letters (x ∷ w) h =
      All-append IsPlain (codes " " ++ name_at names x) (flat_map (λ y. codes " " ++ name_at names y) w) (plain-one 32 refl (name_at names x) (letter x (All-head (λ y. y < length names) x w h)))
      (letters w (All-tail (λ y. y < length names) x w h))

  pub plain-word : (w : List ℕ) → IsWord (length names) w → ArePlain (word_text names w)
  plain-word [] h = All-nil IsPlain
  plain-word (x ∷ w) h =
      All-append IsPlain (name_at names x) (flat_map (λ y. codes " " ++ name_at names y) w) (letter x (All-head (λ y. y < length names) x w h)) (letters w (All-tail (λ y. y < length names) x w h))

plain-comma : (later : Bool) (text rest : List ℕ) → ArePlain (text ++ rest) → ArePlain ((comma_if later ++ text) ++ rest)
plain-comma true text rest h = plain-one 44 refl (text ++ rest) h
plain-comma false text rest h = h

-- the texts
plain-items : (later : Bool) (names : List (List ℕ)) (rest : List ℕ) → All IsName names → ArePlain rest → ArePlain (items_text later (items_of (map string names)) ++ rest)
plain-items later [] rest h more = plain-one 93 refl rest more
plain-items later (n ∷ ns) rest h more =
    let behind = items_text true (items_of (map string ns)) in
    let item : ArePlain ((quoted n ++ behind) ++ rest) =
    subst ArePlain (sym (append_assoc (quoted n) behind rest)) (plain-quoted n (behind ++ rest) (plain-name n (All-head IsName n ns h)) (plain-items true ns rest (All-tail IsName n ns h) more)) in
    plain-comma later (quoted n ++ behind) rest item

pub plain-head : (inputs : List (List ℕ)) → All IsName inputs → ArePlain (compact_text (head_data inputs))
unfolding serde_json_on_literals digits
plain-head inputs h =
    All-append IsPlain (codes "{\"format\":3,\"inputs\":[") (items_text false (items_of (map string inputs)) ++ 125 ∷ []) (literal (codes "{\"format\":3,\"inputs\":[") refl)
    (plain-items false inputs (125 ∷ []) h (literal (125 ∷ []) refl))

pub plain-run : (a b : ℕ) (s t : List ℕ) → a < 2 ^ 64 → b < 2 ^ 64 → ArePlain s → ArePlain t → ArePlain (compact_text (run_data a b s t))
plain-run a b s t a_small b_small sp tp =
    let last : List ℕ = quoted t ++ 93 ∷ [] in
    let texts : List ℕ = quoted s ++ 44 ∷ last in
    let from_texts : ArePlain texts = plain-quoted s (44 ∷ last) sp (plain-one 44 refl last (plain-quoted t (93 ∷ []) tp (literal (93 ∷ []) refl))) in
    let from_run : ArePlain (decimal b ++ 44 ∷ texts) = All-append IsPlain (decimal b) (44 ∷ texts) (plain-decimal b b_small) (plain-one 44 refl texts from_texts) in
    let from_instance : ArePlain (decimal a ++ 44 ∷ (decimal b ++ 44 ∷ texts)) = All-append IsPlain (decimal a) (44 ∷ (decimal b ++ 44 ∷ texts)) (plain-decimal a a_small) (plain-one 44 refl (decimal b ++ 44 ∷ texts) from_run) in
    plain-one 91 refl (decimal a ++ 44 ∷ (decimal b ++ 44 ∷ texts)) from_instance

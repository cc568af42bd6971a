-- A line feed after a value's text changes no token.
use Rattle.std.proofs.Common.{◌≡◌, ℕ, Bool, true, false, cond, ◌&&◌, List, [], ◌∷◌, ◌++◌, option_and_then, refl, sym, ap, ap₂, ◌∙◌, subst, arith, append_assoc, append-nil}
use Rattle.json.specs.Token.{Token, begin_object, end_object, begin_array, end_array, key, string, number, boolean, null, bad}
use Rattle.json.specs.Word.{ends_word, word}
use Rattle.json.specs.Lex.{Lexeme, token, comma, colon, string_token, lex, between, fresh, punctuate, tokens}
use Rattle.json.specs.Print.{escape, quoted, token_text, begins, ends, separator, print_from, print, IsPrintable, ArePrintable}
use Rattle.json.specs.Json as json
use Rattle.json.specs.Tree as tree
use Rattle.json.proofs.Printed.Strings.{content-escape, lex-escape}
use Rattle.json.proofs.Printed.Numbers.{lex-number, in_word-ended}
use Rattle.json.proofs.Printed.Trees.{value-json_tokens, ArePrintable-json_tokens}
use Rattle.json.proofs.Numbered.{value-HasNumbers, ArePrintableOrBad-tokens}
use Rattle.serde_json.specs.Data.{Data}
use Rattle.serde_json.specs.Read.{read, of_json, max_depth}
use Rattle.serde_json.specs.Written.{IsInOrder}

-- after a value stands a comma, a closing bracket or the line feed
value_ends : (ts : List Token) (r : List ℕ) → ends_word r ≡ true → ends_word (print_from true ts ++ r) ≡ true
unfolding print_from
value_ends [] r h = h
value_ends (begin_object ∷ ts) r h = refl
value_ends (end_object ∷ ts) r h = refl
value_ends (begin_array ∷ ts) r h = refl
value_ends (end_array ∷ ts) r h = refl
value_ends (key s ∷ ts) r h = refl
value_ends (string s ∷ ts) r h = refl
value_ends (number s ∷ ts) r h = refl
value_ends (boolean b ∷ ts) r h = refl
value_ends (null ∷ ts) r h = refl
value_ends (bad ∷ ts) r h = refl

lex-quoted : (s r : List ℕ) → lex between (quoted s ++ r) ≡ token (string s) ∷ lex between r
unfolding lex
lex-quoted s r =
    let e = append_assoc (escape s) (34 ∷ []) r in
    ap (λ l. lex between (34 ∷ l)) e ∙ ap₂ (λ o l. token (string_token o) ∷ l) (content-escape s r) (lex-escape s r)

-- the lexemes of a token's text, before those of what follows
abbrev lexed : Token → List Lexeme
lexed begin_object = token begin_object ∷ []
lexed end_object = token end_object ∷ []
lexed begin_array = token begin_array ∷ []
lexed end_array = token end_array ∷ []
lexed (key s) = token (string s) ∷ colon ∷ []
lexed (string s) = token (string s) ∷ []
lexed (number s) = token (number s) ∷ []
lexed (boolean b) = token (boolean b) ∷ []
lexed null = token null ∷ []
lexed bad = []

lex-token_text : (t : Token) (r : List ℕ) → IsPrintable t → (ends t ≡ true → ends_word r ≡ true) → lex between (token_text t ++ r) ≡ lexed t ++ lex between r
unfolding lex word
lex-token_text begin_object r h ended = refl
lex-token_text end_object r h ended = refl
lex-token_text begin_array r h ended = refl
lex-token_text end_array r h ended = refl
lex-token_text (key s) r h ended = ap (lex between) (append_assoc (quoted s) (58 ∷ []) r) ∙ lex-quoted s (58 ∷ r)
lex-token_text (string s) r h ended = lex-quoted s r
lex-token_text (number s) r h ended = lex-number s r h (ended refl)
lex-token_text (boolean true) r h ended = ap₂ (λ b l. token (cond b (boolean true) bad) ∷ l) (ended refl) (in_word-ended r (ended refl))
lex-token_text (boolean false) r h ended = ap₂ (λ b l. token (cond b (boolean false) bad) ∷ l) (ended refl) (in_word-ended r (ended refl))
lex-token_text null r h ended = ap₂ (λ b l. token (cond b null bad) ∷ l) (ended refl) (in_word-ended r (ended refl))
lex-token_text bad r h ended = absurd h

lex-separator : (b : Bool) (r : List ℕ) → lex between (cond b (44 ∷ []) [] ++ r) ≡ cond b (comma ∷ []) [] ++ lex between r
unfolding lex
lex-separator true r = refl
lex-separator false r = refl

abbrev lexemes : Bool → List Token → List Lexeme
lexemes c [] = []
lexemes c (t ∷ ts) = cond (c && begins t) (comma ∷ []) [] ++ (lexed t ++ lexemes (ends t) ts)

regroup : (a b c r : List ℕ) → (a ++ (b ++ c)) ++ r ≡ a ++ (b ++ (c ++ r))
regroup a b c r = append_assoc a (b ++ c) r ∙ ap (λ l. a ++ l) (append_assoc b c r)

-- what follows the tokens' text is a space or nothing
lex-printed : (c : Bool) (ts : List Token) (r : List ℕ) → ends_word r ≡ true → lex between r ≡ [] → ArePrintable ts → lex between (print_from c ts ++ r) ≡ lexemes c ts
unfolding print_from ArePrintable
lex-printed c [] r ended none h = none
lex-printed c (t ∷ ts) r ended none h =
    let rest = print_from (ends t) ts ++ r in
    ap (lex between) (regroup (separator c t) (token_text t) (print_from (ends t) ts) r)
    ∙ (lex-separator (c && begins t) (token_text t ++ rest)
    ∙ ap (λ l. cond (c && begins t) (comma ∷ []) [] ++ l)
    (lex-token_text t rest h.0 (λ e. ap (λ b. ends_word (print_from b ts ++ r)) e ∙ value_ends ts r ended)
    ∙ ap (λ l. lexed t ++ l) (lex-printed (ends t) ts r ended none h.1)))

lex-line_feed : lex between (10 ∷ []) ≡ []
unfolding lex
lex-line_feed = refl

lex-nothing : lex between [] ≡ []
unfolding lex
lex-nothing = refl

tokens-line_feed : (ts : List Token) → ArePrintable ts → tokens (print ts ++ 10 ∷ []) ≡ tokens (print ts)
tokens-line_feed ts h =
    ap (punctuate fresh) (lex-printed false ts (10 ∷ []) refl lex-line_feed h ∙ sym (ap (lex between) (sym (append-nil (print ts))) ∙ lex-printed false ts [] refl lex-nothing h))

printable : (text : List ℕ) (d : Data) → IsInOrder text d → ArePrintable (tokens text)
printable text d w =
    let read_whole = value-json_tokens w.0 (tree.depth w.0) [] (omega arith) in
    let same : tree.json_tokens w.0 ++ [] ≡ tokens text = append-nil (tree.json_tokens w.0) ∙ sym w.1 in
    let good = value-HasNumbers (tree.depth w.0) (tokens text) [] w.0 (ArePrintableOrBad-tokens text) (ap (json.value (tree.depth w.0)) (sym same) ∙ read_whole) in
    subst ArePrintable (sym w.1) (ArePrintable-json_tokens w.0 good)

-- a compact text is read as the same value where a line feed follows
pub read-line_feed : (text : List ℕ) (d : Data) → text ≡ print (tokens text) → IsInOrder text d → read (text ++ 10 ∷ []) ≡ read text
read-line_feed text d compact order =
    let same : tokens (text ++ 10 ∷ []) ≡ tokens text =
    ap (λ (l : List ℕ). tokens (l ++ 10 ∷ [])) compact ∙ (tokens-line_feed (tokens text) (printable text d order) ∙ ap tokens (sym compact)) in
    ap (λ (ts : List Token). option_and_then of_json (option_and_then (λ p. json.if_last p.0 p.1) (json.value max_depth ts))) same

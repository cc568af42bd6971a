-- Names of outputs that were told over a link.
use Rattle.std.proofs.Common.{◌≡◌, inl, inr, ℕ, ◌+◌, ◌<◌, List, ◌∷◌, ◌++◌, codes, length, slice_get, take, Bool, Option, Some, None, option_map, ap, sym, ◌∙◌, subst, arith, length-append}
use Rattle.std.specs.List.{All}
use Rattle.std.specs.Str.Lines.{strip_carriage_return}
use Rattle.std.proofs.lemmas.List.{get_or_append_left}
use Rattle.std.proofs.lemmas.List.Elements.{All-push, All-weaker}
use Rattle.std.proofs.lemmas.Option.{slice_get-get_or, slice_get_within, get_or_from_slice_get}
use Rattle.lw_words.specs.declared.stop.SulStop.{SulStop}
use Rattle.lw_words.specs.declared.stop.SulStop.TheVariants.{Failed, BadLine, Gone}
use Rattle.lw_names.specs.Names.{Brings}
use Rattle.lw_outside.specs.Lines.{lines_of}
use Rattle.lw_outside.specs.Links.{Transcript, receives, sends}
use Rattle.lw_outside.specs.Protocol.{in_line, out_line}
use Rattle.lw_line.specs.Transcripts.{number_behind}
use Rattle.lw_line.specs.Causes.{AreToldNames, IsToldName}
use Rattle.lw_line.specs.LineState.{AreToldIfFree}
use Rattle.lw_line.specs.bodies.Exchanges.{IsAnswered, IsRefusal, ended}
use Rattle.lw_line.specs.bodies.Naming.{OutputNaming}
use Rattle.lw_line.specs.bodies.Pieces.{EndsOpen, HasCome, NoFeed}
use Rattle.lw_line.specs.bodies.Standing.{IsTold, IsToldLive, Stands}
use Rattle.lw_line.proofs.Naming.{brought_is, has_named}
use Rattle.lw_line.proofs.Splitting.{lines_front}
use Rattle.lw_line.proofs.Standing.{is_among, is_sent}

-- a line stays where more bytes come
line_stays : (bytes more : List ℕ) (i : ℕ) (raw : List ℕ) → slice_get (lines_of bytes) i ≡ Some raw → slice_get (lines_of (bytes ++ more)) i ≡ Some raw
line_stays bytes more i raw is =
    let front = lines_front bytes more in
    let lt : i < length (lines_of bytes) = slice_get_within (lines_of bytes) i raw is in
    let long : length (lines_of bytes ++ front.0) ≡ length (lines_of bytes) + length front.0 = length-append (lines_of bytes) front.0 in
    ap (λ (ls : List (List ℕ)). slice_get ls i) front.1
    ∙ (slice_get-get_or (lines_of bytes ++ front.0) i raw (omega arith)
    ∙ ap (λ (l : List ℕ). Some l) (get_or_append_left (lines_of bytes) front.0 raw i lt ∙ get_or_from_slice_get (lines_of bytes) i raw raw is))

-- so names that were told stay told
told_more : (names : List (List ℕ)) (t : Transcript) (more : List ℕ) → All (IsToldName t) names → All (IsToldName (receives more t)) names
told_more names t more are = All-weaker (IsToldName t) (IsToldName (receives more t)) (λ name told. (told.0, (told.1.0, told.1.1, told.1.2, line_stays t.received more told.0 told.1.1 told.1.3, told.1.4))) names are

-- and where more bytes are sent
told_sent : (names : List (List ℕ)) (t : Transcript) (more : List ℕ) → All (IsToldName t) names → All (IsToldName (sends more t)) names
told_sent names t more are = All-weaker (IsToldName t) (IsToldName (sends more t)) (λ name told. (told.0, (told.1.0, told.1.1, line_stays t.sent more told.0 (in_line told.1.0) told.1.2, told.1.3, told.1.4))) names are

told_come : (names : List (List ℕ)) (held bytes : List ℕ) (t : Transcript) (after : Option Transcript) → HasCome held bytes (Some t) after → All (IsToldName t) names → AreToldNames names after
told_come names held bytes t after come are = subst (AreToldNames names) (sym come.told) (told_more names t come.more are)

nothing_come : (names : List (List ℕ)) (held bytes : List ℕ) (after : Option Transcript) → HasCome held bytes None after → AreToldNames names after
nothing_come names held bytes after come = subst (AreToldNames names) (sym come.told) tt

come_told : (names : List (List ℕ)) (sent held bytes : List ℕ) (told after : Option Transcript) → HasCome held bytes (option_map (sends sent) told) after → AreToldNames names told → AreToldNames names after
come_told names sent held bytes None after come are = nothing_come names held bytes after come
come_told names sent held bytes (Some t) after come are = told_come names held bytes (sends sent t) after come (told_sent names t sent are)

open_told : (names : List (List ℕ)) (sent held : List ℕ) (stop : SulStop) (told after : Option Transcript) → EndsOpen held stop (option_map (sends sent) told) after → AreToldNames names told → AreToldNames names after
open_told names sent held Failed told after h are = come_told names sent held h.0 told after h.1.come are
open_told names sent held Gone told after h are = come_told names sent held h.0 told after h.1.come are
open_told names sent held (BadLine line) told after h are = come_told names sent held line told after h.0.come are

-- an answered call, and a refused one, leave the names told that were so
pub answered_told : (names : List (List ℕ)) (bytes held now answer : List ℕ) (told after : Option Transcript) → IsAnswered bytes held now answer told after → AreToldNames names told → AreToldNames names after
answered_told names bytes held now answer told after h are = come_told names bytes held (h.raw ++ 10 ∷ now) told after h.received.come are

pub refused_told : (names : List (List ℕ)) (IsBad : List ℕ → Type 0) (bytes held now : List ℕ) (stop : SulStop) (told after : Option Transcript) → IsRefusal IsBad bytes held now stop told after → AreToldNames names told → AreToldNames names after
refused_told names IsBad bytes held now stop None after (inl h) are = subst (AreToldNames names) (sym h.1) tt
refused_told names IsBad bytes held now stop (Some t) after (inl h) are = subst (AreToldNames names) (sym h.1.2) (told_sent names t (take h.1.0 bytes) are)
refused_told names IsBad bytes held now stop told after (inr (inl h)) are = open_told names bytes held stop told after h are
refused_told names IsBad bytes held now stop told after (inr (inr h)) are = answered_told names bytes held now h.0 told after h.2 are

-- the name that an answer brought was told by it
module _ (inputs before names : List (List ℕ)) (most faults : ℕ) (started : Bool) (letter : List ℕ) (plain : NoFeed (in_line letter)) (held now answer : List ℕ) (y : ℕ) (brings : Brings before names y) (number : number_behind (codes "out ") names answer ≡ Some y) where
  told_here : (t : Transcript) (more raw : List ℕ) (i : ℕ) → slice_get (lines_of t.sent) i ≡ Some (in_line letter) → slice_get (lines_of (t.received ++ more)) i ≡ Some raw → answer ≡ strip_carriage_return raw → All (IsToldName (receives more t)) before → All (IsToldName (receives more t)) names
  told_here t more raw i asked at stripped are = by brings
    where
      by : Brings before names y → All (IsToldName (receives more t)) names
      by (inl h) = subst (λ (l : List (List ℕ)). All (IsToldName (receives more t)) l) (sym h.1) are
      by (inr h) =
          let is = has_named names answer y number in
          let same : is.0 ≡ h.1.0 = brought_is before names y h.1.0 is.0 h.0 h.1.1 is.2 in
          let said : IsToldName (receives more t) h.1.0 = (i, (letter, raw, asked, at, sym stripped ∙ (is.1 ∙ ap out_line same))) in
          subst (λ (l : List (List ℕ)). All (IsToldName (receives more t)) l) (sym h.1.1) (All-push (IsToldName (receives more t)) before h.1.0 are said)

  live_told : (told after : Option Transcript) → IsToldLive inputs before started held told → IsAnswered (ended (in_line letter)) held now answer told after → AreToldNames before told → AreToldNames names after
  live_told None after live h are = subst (AreToldNames names) (sym h.received.come.told) tt
  live_told (Some t) after live h are =
      let c = h.received.come in
      subst (AreToldNames names) (sym c.told)
      (told_here (sends (ended (in_line letter)) t) c.more h.raw (length live.answers) (is_sent inputs before started held t live (in_line letter) plain) (is_among inputs before started held t live c.more h.raw now h.received.plain c.whole) h.stripped
      (told_more before (sends (ended (in_line letter)) t) c.more (told_sent before t (ended (in_line letter)) are)))

  pub brought_told : (ends : ℕ) (stop : Option SulStop) (cut : Bool) (told after : Option Transcript) → stop ≡ None → Stands inputs before most faults ends started held stop cut told → IsAnswered (ended (in_line letter)) held now answer told after → AreToldNames before told → AreToldNames names after
  brought_told ends stop cut told after none stands =
      live_told told after (subst (λ (s : Option SulStop). IsTold inputs before most faults started held s cut told) none stands.link)

-- declared names are not free ones
pub declared_told : (o : OutputNaming) (names : List (List ℕ)) (told : Option Transcript) → o ≡ record { names = names; most = length names; range = length names } → AreToldIfFree o.names o.most o.range told
declared_told o names told is free =
    let most : o.most ≡ length names = ap (λ (o : OutputNaming). o.most) is in
    let range : o.range ≡ length names = ap (λ (o : OutputNaming). o.range) is in
    absurd (omega (arith, most, range, free.0, free.1))

use Rattle.std.proofs.Common.{◌≡◌, ◌≤◌, ◌∙◌, ◌++◌, ◌∷◌, [], ap, sym, subst, List, ℕ, Some, refl}
use Rattle.std.specs.Str.{IsUtf8}
use Rattle.std.proofs.lemmas.Str.{IsUtf8-append}
use Rattle.json.proofs.Printed.Utf8.{IsUtf8-are_ascii}
use Rattle.serde_json.specs.Data.{Data, depth}
use Rattle.serde_json.specs.View.{view}
use Rattle.serde_json.specs.Read.{read}
use Rattle.serde_json.specs.Written.{compact_text, has_float}
use Rattle.lw_json.proofs.LineFeed.{read-line_feed}
use Rattle.lw_accept.specs.AcceptorText.{acceptor_data}
use Rattle.lw_accept.proofs.RoundTrip.{written_of, says_it, spelled, acceptor_depth, no_float}
use Rattle.lw_accept.proofs.writer.acceptor_text.Goals as goal

pub returns : goal.returns
returns c =
    let m = c.args.a.now in
    let named = c.in_ok-acceptor_value.ensures.named in
    let spelled_by = c.in_ok-acceptor_value.ensures.value in
    let made = c.in_ok-text.text.items in
    let text : made ≡ compact_text (acceptor_data m) = c.in_ok-text.ensures.text (ap has_float spelled_by ∙ no_float m) ∙ ap compact_text spelled_by in
    let written : c.push.new.self.items ≡ made ++ 10 ∷ [] = c.in_ok-push.ensures.items in
    let d = view c.in_ok-acceptor_value.field-0 in
    let shallow : depth d ≤ 127 = subst (λ (e : Data). depth e ≤ 127) (sym spelled_by) (acceptor_depth m) in
    let back : read c.push.new.self.items ≡ Some (acceptor_data m) =
    ap read written ∙ (read-line_feed made d c.in_ok-text.ensures.compact c.in_ok-text.ensures.order ∙ (c.in_ok-text.ensures.reads_back shallow ∙ ap (λ (e : Data). Some e) spelled_by)) in
    let utf8 : IsUtf8 c.push.new.self.items = subst IsUtf8 (sym written) (IsUtf8-append made (10 ∷ []) c.in_ok-text.ensures.utf8 (IsUtf8-are_ascii (10 ∷ []) refl)) in
    record {
      text = written ∙ ap (λ (t : List ℕ). t ++ 10 ∷ []) text;
      read_back = (acceptor_data m, (utf8, back), (written_of m, says_it m named, spelled m named));
    }

use Rattle.std.proofs.Common.{ap, rules, ◌≡◌, ℕ, ◌<◌, List, [], ◌∷◌, length, sym, ◌∙◌, subst}
use Rattle.std.proofs.lemmas.List.{length-append}
use Rattle.lw_words.specs.Word.{answers_of}
use Rattle.lw_cache.specs.Settling.{OracleState}
use Rattle.lw_cache.proofs.SettlingLemmas.{leaves_nothing, leaves_grown_own}
use Rattle.lw_plain.specs.Turns.{AsksBatch}
use Rattle.lw_table.specs.Grown.{HasGrown}
use Rattle.lw_table.specs.Table.{TableState, home_at, IsTable, CellsAreRead}
use Rattle.lw_table.specs.bodies.Growing.{AreFullBelow}
use Rattle.lw_table.specs.bodies.Plain.{open_behind}
use Rattle.lw_table.proofs.AccessLemmas.{row_stays_at, access_read, access_grown, homes_before, has_state}
use Rattle.lw_table.proofs.IndexLemmas.{length-rows_by}
use Rattle.lw_table.proofs.GrownLemmas.{not_grown, grown_then, crowd_of, tells_crowd}
use Rattle.lw_table.proofs.OpenLemmas.{open_of_new}
use Rattle.lw_table.proofs.table.ObservationTable.add_state.Goals as goal

pub returns-in_err-with_row_word-clause-grown : goal.returns-in_err-with_row_word-clause-grown
returns-in_err-with_row_word-clause-grown g c =
    let t : TableState = c.args.self.now in
    not_grown (answers_of (g.O.Oracle.state c.args.oracle.now).kept) t (subst (λ (u : TableState). IsTable u) c.self.view_is c.self.invariant.0) c.requires.read

pub returns-in_err-with_row_word-clause-leaves : goal.returns-in_err-with_row_word-clause-leaves
returns-in_err-with_row_word-clause-leaves g c =
    let state = g.O.Oracle.state c.args.oracle.now in
    leaves_grown_own state state c.from_residual.result (leaves_nothing state c.requires.keeps c.requires.may) (search rules)

pub returns-then-len-from-clause-grown : goal.returns-then-len-from-clause-grown
returns-then-len-from-clause-grown g c =
    let t : TableState = c.args.self.now in
    not_grown (answers_of (g.O.Oracle.state c.args.oracle.now).kept) t (subst (λ (u : TableState). IsTable u) c.self.view_is c.self.invariant.0) c.requires.read

pub returns-then-len-from-clause-crowd : goal.returns-then-len-from-clause-crowd
returns-then-len-from-clause-crowd g c =
    let t : TableState = c.args.self.now in
    let ks = answers_of (g.O.Oracle.state c.args.oracle.now).kept in
    let table : IsTable t = subst (λ (u : TableState). IsTable u) c.self.view_is c.self.invariant.0 in
    let r = c.in_ok-with_row_word.ensures in
    let many : length t.access ≡ t.most = subst (λ (u : TableState). length u.access ≡ u.most) c.self.view_is (search rules) in
    tells_crowd ks t c.in_ok-with_row_word.field-0 (crowd_of ks t c.args.row r.0 c.in_ok-with_row_word.field-0 table c.requires.read c.requires.full c.requires.row r.1 c.requires.new many r.2)

pub returns-in_err-add_access-clause-grown : goal.returns-in_err-add_access-clause-grown
returns-in_err-add_access-clause-grown g c =
    let t : TableState = c.args.self.now in
    let ks = answers_of (g.O.Oracle.state c.args.oracle.now).kept in
    subst (λ (u : TableState). HasGrown ks t u) (sym c.in_err-add_access.ensures.err) (not_grown ks t (subst (λ (u : TableState). IsTable u) c.self.view_is c.self.invariant.0) c.requires.read)

pub returns-in_err-add_access-clause-leaves : goal.returns-in_err-add_access-clause-leaves
returns-in_err-add_access-clause-leaves g c =
    let state = g.O.Oracle.state c.args.oracle.now in
    leaves_grown_own state state c.from_residual-in_err-add_access.result (leaves_nothing state c.requires.keeps c.requires.may) (search rules)

pub fill_new-requires-clause-read : goal.fill_new-requires-clause-read
fill_new-requires-clause-read g c =
    let t : TableState = c.args.self.now in
    let ks = answers_of (g.O.Oracle.state c.args.oracle.now).kept in
    let table : IsTable t = subst (λ (u : TableState). IsTable u) c.self.view_is c.self.invariant.0 in
    let added = c.in_ok-add_access.ensures.ok in
    subst (λ (u : TableState). CellsAreRead ks u) (sym added.is) (access_read t added.word c.args.row table added.of_row c.requires.row ks c.requires.read)

pub fill_new-requires-clause-inputs : goal.fill_new-requires-clause-inputs
fill_new-requires-clause-inputs g c = ap (λ (u : TableState). u.inputs) c.in_ok-add_access.ensures.ok.is ∙ c.requires.inputs

pub fill_new-requires-clause-outputs : goal.fill_new-requires-clause-outputs
fill_new-requires-clause-outputs g c = ap (λ (u : TableState). u.outputs) c.in_ok-add_access.ensures.ok.is ∙ c.requires.outputs

pub fill_new-requires-clause-full : goal.fill_new-requires-clause-full
fill_new-requires-clause-full g c =
    let t : TableState = c.args.self.now in
    let table : IsTable t = subst (λ (u : TableState). IsTable u) c.self.view_is c.self.invariant.0 in
    let added = c.in_ok-add_access.ensures.ok in
    let rows : c.len-first.result ≡ length c.self.inside.rows.items = search rules in
    let first : c.len-first.result ≡ length t.cells = subst (λ (u : TableState). c.len-first.result ≡ length u.cells) c.self.view_is (rows ∙ sym (length-rows_by c.self.inside.classes c.self.inside.rows.items)) in
    subst (λ (n : ℕ). AreFullBelow c.add_access.new.self n) (sym first)
    (subst (λ (u : TableState). AreFullBelow u (length t.cells)) (sym added.is) (λ i lt. ap (λ (r : List (List ℕ)). length r) (row_stays_at t added.word c.args.row table added.of_row c.requires.row i lt) ∙ c.requires.full i lt))

pub fill_new-requires-clause-homes : goal.fill_new-requires-clause-homes
fill_new-requires-clause-homes g c =
    let t : TableState = c.args.self.now in
    let table : IsTable t = subst (λ (u : TableState). IsTable u) c.self.view_is c.self.invariant.0 in
    let added = c.in_ok-add_access.ensures.ok in
    let rows : c.len-first.result ≡ length c.self.inside.rows.items = search rules in
    let first : c.len-first.result ≡ length t.cells = subst (λ (u : TableState). c.len-first.result ≡ length u.cells) c.self.view_is (rows ∙ sym (length-rows_by c.self.inside.classes c.self.inside.rows.items)) in
    λ q lt. subst (λ (n : ℕ). home_at c.add_access.new.self q < n) (sym first)
    (subst (λ (u : TableState). q < length u.access → home_at u q < length t.cells) (sym added.is) (homes_before t added.word c.args.row table added.of_row c.requires.row q) lt)

pub returns-in_err-fill_new-clause-grown : goal.returns-in_err-fill_new-clause-grown
returns-in_err-fill_new-clause-grown g c =
    let t : TableState = c.args.self.now in
    let ks = answers_of (g.O.Oracle.state c.args.oracle.now).kept in
    let table : IsTable t = subst (λ (u : TableState). IsTable u) c.self.view_is c.self.invariant.0 in
    let added = c.in_ok-add_access.ensures.ok in
    let one : HasGrown ks t c.add_access.new.self = subst (λ (u : TableState). HasGrown ks t u) (sym added.is) (access_grown t added.word c.args.row table added.of_row c.requires.row ks (subst (λ (u : TableState). IsTable u) added.is c.add_access.ensures.table) c.requires.read) in
    grown_then ks (answers_of (g.O.Oracle.state c.fill_new.new.oracle).kept) t c.add_access.new.self c.fill_new.new.self one c.fill_new.ensures.grown (ap (λ (u : TableState). u.suffixes) c.fill_new.ensures.cells)

pub returns-in_err-fill_new-clause-suffixes : goal.returns-in_err-fill_new-clause-suffixes
returns-in_err-fill_new-clause-suffixes g c = ap (λ (u : TableState). u.suffixes) c.fill_new.ensures.cells ∙ ap (λ (u : TableState). u.suffixes) c.in_ok-add_access.ensures.ok.is

pub returns-in_err-fill_new-clause-refinements : goal.returns-in_err-fill_new-clause-refinements
returns-in_err-fill_new-clause-refinements g c = ap (λ (u : TableState). u.refinements) c.fill_new.ensures.cells ∙ ap (λ (u : TableState). u.refinements) c.in_ok-add_access.ensures.ok.is

pub returns : goal.returns
returns g c =
    let t : TableState = c.args.self.now in
    let o : OracleState = g.O.Oracle.state c.args.oracle.now in
    let n : OracleState = g.O.Oracle.state c.fill_new.new.oracle in
    let rows : c.len-first.result ≡ length c.self.inside.rows.items = search rules in
    let first : c.len-first.result ≡ length t.cells = subst (λ (u : TableState). c.len-first.result ≡ length u.cells) c.self.view_is (rows ∙ sym (length-rows_by c.self.inside.classes c.self.inside.rows.items)) in
    let now = c.fill_new.new.self in
    let ks = answers_of (g.O.Oracle.state c.args.oracle.now).kept in
    let table : IsTable t = subst (λ (u : TableState). IsTable u) c.self.view_is c.self.invariant.0 in
    let added = c.in_ok-add_access.ensures.ok in
    let cells = c.fill_new.ensures.cells in
    let one : HasGrown ks t c.add_access.new.self = subst (λ (u : TableState). HasGrown ks t u) (sym added.is) (access_grown t added.word c.args.row table added.of_row c.requires.row ks (subst (λ (u : TableState). IsTable u) added.is c.add_access.ensures.table) c.requires.read) in
    record {
      grown = grown_then ks (answers_of (g.O.Oracle.state c.fill_new.new.oracle).kept) t c.add_access.new.self now one c.fill_new.ensures.grown (ap (λ (u : TableState). u.suffixes) cells);
      full = c.in_ok-fill_new.ensures.full;
      one = ap (λ (u : TableState). length u.access) cells ∙ (ap (λ (u : TableState). length u.access) added.is ∙ length-append t.access (added.word ∷ []));
      state = has_state (answers_of (g.O.Oracle.state c.fill_new.new.oracle).kept) t c.add_access.new.self now added.word c.args.row table added.of_row c.requires.row added.is c.fill_new.ensures.grown;
      suffixes = ap (λ (u : TableState). u.suffixes) cells ∙ ap (λ (u : TableState). u.suffixes) added.is;
      refinements = ap (λ (u : TableState). u.refinements) cells ∙ ap (λ (u : TableState). u.refinements) added.is;
      crowd = λ words told. cc;
      asks = c.fill_new.ensures.asks;
      plainly = record {
        word = added.word;
        of_row = added.of_row;
        access = ap (λ (u : TableState). u.access) cells ∙ ap (λ (u : TableState). u.access) added.is;
        asks = subst (λ (ws : List (List ℕ)). AsksBatch ws o n) (open_of_new t.inputs t.access t.suffixes added.word t.cells c.len-first.result first table.rows)
            (subst (λ (u : TableState). AsksBatch (open_behind u c.len-first.result) o n) added.is c.in_ok-fill_new.ensures.plainly);
      };
      leaves = c.in_ok-fill_new.ensures.leaves;
      can = c.in_ok-fill_new.ensures.can;
    }

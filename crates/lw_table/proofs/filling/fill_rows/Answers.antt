use Rattle.std.proofs.Common.{rules, ◌≡◌, ◌++◌, ◌∷◌, [], ℕ, List, length, ◌<◌, ap, sym, ◌∙◌, subst, arith}
use Rattle.std.proofs.lemmas.List.{length-append}
use Rattle.lw_words.specs.Word.{answers_of}
use Rattle.lw_table.specs.bodies.Classes.{row_of}
use Rattle.lw_table.specs.bodies.Filling.{GoesOn}
use Rattle.lw_table.specs.bodies.Rows.{no_cells, class_at}
use Rattle.lw_table.proofs.FillLemmas.{go_on_more, more_then}
use Rattle.lw_table.proofs.StepLemmas.{row_stays}
use Rattle.lw_table.proofs.filling.fill_rows.Goals as goal

pub fill_row-requires : goal.fill_row-requires
fill_row-requires c =
    let l = c.loop-row in
    let lt : l.row < length c.args.rows.now = search rules in
    let within = c.requires.within l.row no_cells lt in
    let stays = row_stays c.args.classes.now l.invariant.more.0 l.classes (class_at c.args.rows.now l.row) l.invariant.more.1 within in
    let long = length-append c.args.classes.now l.invariant.more.0 in
    record {
      answers = c.requires.answers;
      class = omega (arith, within, ap (λ (cs : List (List (List ℕ))). length cs) l.invariant.more.1, long);
      cells = c.requires.counts l.row no_cells lt ∙ ap (λ (r : List (List ℕ)). length r) (sym stays);
      few = c.requires.few l.row no_cells lt;
      known = c.requires.known l.row c.in_ok-word.word (omega (arith, l.invariant.all)) lt c.in_ok-word.ensures.word;
      differ = l.invariant.differ;
    }

pub returns-in_err-fill_row-clause-more : goal.returns-in_err-fill_row-clause-more
returns-in_err-fill_row-clause-more c = more_then c.args.classes.now c.loop-row.classes c.fill_row.new.classes c.fill_row.ensures.more.0 c.loop-row.invariant.more c.fill_row.ensures.more.1

pub returns-in_err-push-clause-more : goal.returns-in_err-push-clause-more
returns-in_err-push-clause-more c = more_then c.args.classes.now c.loop-row.classes c.fill_row.new.classes c.fill_row.ensures.more.0 c.loop-row.invariant.more c.fill_row.ensures.more.1

pub loop-row-preserved : goal.loop-row-preserved
loop-row-preserved c =
    let l = c.loop-row in
    let ks = answers_of c.args.cache.now.kept in
    let filled = c.in_ok-fill_row in
    let class = class_at c.args.rows.now l.row in
    let was : row_of l.classes class ≡ row_of c.args.classes.now class = row_stays c.args.classes.now l.invariant.more.0 l.classes class l.invariant.more.1 (c.requires.within l.row no_cells (search rules)) in
    let grown : c.push.new.self.items ≡ l.filled.items ++ filled.field-0 ∷ [] = search rules in
    let long = length-append l.filled.items (filled.field-0 ∷ []) in
    record {
      more = more_then c.args.classes.now l.classes c.fill_row.new.classes c.fill_row.ensures.more.0 l.invariant.more c.fill_row.ensures.more.1;
      differ = c.fill_row.ensures.differ;
      all = omega (arith, ap (λ (xs : List _). length xs) grown, long, l.invariant.all);
      go_on = go_on_more ks c.args.inputs c.args.access.now c.args.suffixes.now c.args.classes.now l.classes c.fill_row.new.classes c.fill_row.ensures.more.0 c.args.rows.now l.filled.items c.push.new.self.items c.args.first l.row filled.field-0 c.in_ok-word.word
          l.invariant.go_on l.invariant.all c.fill_row.ensures.more.1 filled.ensures.class filled.ensures.cells filled.ensures.whole c.in_ok-word.ensures.word
          (subst (λ (row : List (List ℕ)). GoesOn ks c.args.suffixes.now c.in_ok-word.word row (row_of c.fill_row.new.classes filled.field-0.class)) was filled.ensures.goes_on) grown;
    }

use Rattle.std.proofs.Common.{◌≡◌, ◌⊎◌, ◌≢◌, ⊎_elim, ℕ, ◌<◌, ◌≤◌, List, [], length, get_or, Option, Some, is_some, refl, sym, ◌∙◌, subst, ap, arith, length-set}
use Rattle.std.proofs.lemmas.List.{get_or_default, get_or-set_other}
use Rattle.lw_desk.specs.History.{DeskOpening, Legal}
use Rattle.lw_pool.proofs.CrewLemmas.{same_or_not, write_place, can_run, has_ended, worked_off, own_first, own_other}
use Rattle.lw_pool.proofs.hands.work_off.Goals as goal

pub run_all-requires-clause-can : goal.run_all-requires-clause-can
run_all-requires-clause-can g c κs within k d lt =
    let within_old : k < length c.args.hands.now = omega (arith, lt, c.hire-busy.ensures.length) in
    can_run (λ p. p.turnstile ≡ c.args.turnstile) c.args.first.knows.opening c.args.batch.now k (get_or c.args.hands.now k d) (get_or c.hire-busy.new.hands k d) c.requires.batch (c.requires.ready k d within_old) (c.requires.letters k d within_old) (c.hire-busy.ensures.hired k d within_old)

pub leave-own-requires : goal.leave-own-requires
leave-own-requires g c =
    let x = c.index-hands-0.result in
    let run = c.run_all.ensures.run 0 x (omega (arith, c.requires.some, c.hire-busy.ensures.length)) in
    record { some = (run.place, run.is) }

pub gather-last-requires-clause-ours : goal.gather-last-requires-clause-ours
gather-last-requires-clause-ours g c =
    let x = c.index-hands-0.result in
    let run = c.run_all.ensures.run 0 x (omega (arith, c.requires.some, c.hire-busy.ensures.length)) in
    ap (λ p. p.turnstile) (c.leave-own.ensures.pass run.place run.is) ∙ run.ours

pub gather-last-requires-clause-first : goal.gather-last-requires-clause-first
gather-last-requires-clause-first g c =
    let x = c.index-hands-0.result in
    let e = has_ended (λ p. p.turnstile ≡ c.args.turnstile) c.args.first.knows.opening 0 (get_or c.args.hands.now 0 x) (get_or c.hire-busy.new.hands 0 x) (get_or c.run_all.new.hands 0 x) (c.hire-busy.ensures.hired 0 x c.requires.some) (c.run_all.ensures.run 0 x (omega (arith, c.requires.some, c.hire-busy.ensures.length))) in
    let pass = c.leave-own.ensures.pass e.place e.is in
    (ap (λ p. p.knows.number) pass ∙ e.number_is, ap (λ p. p.knows.ended) pass ∙ (e.first refl).1)

pub gather-last-requires-clause-others : goal.gather-last-requires-clause-others
gather-last-requires-clause-others g c i d some lt =
    let within : i < length c.args.hands.now = omega (arith, lt, length-set c.run_all.new.hands 0 c.leave-own.new.self, c.run_all.ensures.length, c.hire-busy.ensures.length) in
    let e = has_ended (λ p. p.turnstile ≡ c.args.turnstile) c.args.first.knows.opening i (get_or c.args.hands.now i d) (get_or c.hire-busy.new.hands i d) (get_or c.run_all.new.hands i d) (c.hire-busy.ensures.hired i d within) (c.run_all.ensures.run i d (omega (arith, within, c.hire-busy.ensures.length))) in
    let there = get_or-set_other c.run_all.new.hands 0 i c.leave-own.new.self d (λ z. omega (arith, z, some)) in
    record { place = e.place; is = ap (λ h. h.engaged) there ∙ e.is; ours = e.ours; number_is = e.number_is }

pub close-requires-clause-joined : goal.close-requires-clause-joined
close-requires-clause-joined g c n some below =
    let x = c.index-hands-0.result in
    let zero_in : 0 < length c.hire-busy.new.hands = omega (arith, c.requires.some, c.hire-busy.ensures.length) in
    let first = has_ended (λ p. p.turnstile ≡ c.args.turnstile) c.args.first.knows.opening 0 (get_or c.args.hands.now 0 x) (get_or c.hire-busy.new.hands 0 x) (get_or c.run_all.new.hands 0 x) (c.hire-busy.ensures.hired 0 x c.requires.some) (c.run_all.ensures.run 0 x zero_in) in
    let made = c.gather-last.ensures.same.2 ∙ (ap (λ p. p.knows.made) (c.leave-own.ensures.pass first.place first.is) ∙ ((first.first refl).0 ∙ c.requires.crew)) in
    let within : n < length c.args.hands.now = subst (λ (m : ℕ). n < m) made below in
    let e = has_ended (λ p. p.turnstile ≡ c.args.turnstile) c.args.first.knows.opening n (get_or c.args.hands.now n x) (get_or c.hire-busy.new.hands n x) (get_or c.run_all.new.hands n x) (c.hire-busy.ensures.hired n x within) (c.run_all.ensures.run n x (omega (arith, within, c.hire-busy.ensures.length))) in
    let there = get_or-set_other c.run_all.new.hands 0 n c.leave-own.new.self x (λ z. omega (arith, z, some)) in
    ap is_some (c.gather-last.ensures.joined n x e.place some (omega (arith, within, length-set c.run_all.new.hands 0 c.leave-own.new.self, c.run_all.ensures.length, c.hire-busy.ensures.length)) (ap (λ h. h.engaged) there ∙ e.is))

pub returns-clause-opening : goal.returns-clause-opening
returns-clause-opening g c =
    let x = c.index-hands-0.result in
    let first = has_ended (λ p. p.turnstile ≡ c.args.turnstile) c.args.first.knows.opening 0 (get_or c.args.hands.now 0 x) (get_or c.hire-busy.new.hands 0 x) (get_or c.run_all.new.hands 0 x) (c.hire-busy.ensures.hired 0 x c.requires.some) (c.run_all.ensures.run 0 x (omega (arith, c.requires.some, c.hire-busy.ensures.length))) in
    c.close.ensures.opening ∙ (c.gather-last.ensures.same.1 ∙ (ap (λ p. p.knows.opening) (c.leave-own.ensures.pass first.place first.is) ∙ first.opening))

pub returns-clause-lawful : goal.returns-clause-lawful
returns-clause-lawful g c =
    let x = c.index-hands-0.result in
    let first = has_ended (λ p. p.turnstile ≡ c.args.turnstile) c.args.first.knows.opening 0 (get_or c.args.hands.now 0 x) (get_or c.hire-busy.new.hands 0 x) (get_or c.run_all.new.hands 0 x) (c.hire-busy.ensures.hired 0 x c.requires.some) (c.run_all.ensures.run 0 x (omega (arith, c.requires.some, c.hire-busy.ensures.length))) in
    subst (λ (o : DeskOpening). Legal o c.close.result.entries) (c.gather-last.ensures.same.1 ∙ (ap (λ p. p.knows.opening) (c.leave-own.ensures.pass first.place first.is) ∙ first.opening)) c.close.ensures.entries.lawful

pub returns-clause-others : goal.returns-clause-others
returns-clause-others g c n le =
    let x = c.index-hands-0.result in
    let first = has_ended (λ p. p.turnstile ≡ c.args.turnstile) c.args.first.knows.opening 0 (get_or c.args.hands.now 0 x) (get_or c.hire-busy.new.hands 0 x) (get_or c.run_all.new.hands 0 x) (c.hire-busy.ensures.hired 0 x c.requires.some) (c.run_all.ensures.run 0 x (omega (arith, c.requires.some, c.hire-busy.ensures.length))) in
    let made = c.gather-last.ensures.same.2 ∙ (ap (λ p. p.knows.made) (c.leave-own.ensures.pass first.place first.is) ∙ ((first.first refl).0 ∙ c.requires.crew)) in
    c.close.ensures.entries.others n (subst (λ (m : ℕ). m ≤ n) (sym made) le)

pub returns-clause-worked : goal.returns-clause-worked
returns-clause-worked g c i d within =
    let ended = has_ended (λ p. p.turnstile ≡ c.args.turnstile) c.args.first.knows.opening i (get_or c.args.hands.now i d) (get_or c.hire-busy.new.hands i d) (get_or c.run_all.new.hands i d) (c.hire-busy.ensures.hired i d within) (c.run_all.ensures.run i d (omega (arith, within, c.hire-busy.ensures.length))) in
    let x = c.index-hands-0.result in
    let zero_in : 0 < length c.run_all.new.hands = omega (arith, c.requires.some, c.run_all.ensures.length, c.hire-busy.ensures.length) in
    let within_run : i < length c.run_all.new.hands = omega (arith, within, c.run_all.ensures.length, c.hire-busy.ensures.length) in
    let within_left : i < length (Rattle.std.proofs.Common.set c.run_all.new.hands 0 c.leave-own.new.self) = omega (arith, within_run, length-set c.run_all.new.hands 0 c.leave-own.new.self) in
    let kept = c.gather-last.ensures.workers i d within_left
    ∙ write_place (λ n was now. now.worker ≡ was.worker) c.run_all.new.hands c.run_all.new.hands 0 c.leave-own.new.self zero_in i d (λ other. refl) (c.leave-own.ensures.worker ∙ ap (λ h. h.worker) (get_or_default c.run_all.new.hands 0 x d zero_in)) in
    worked_off (λ p. p.turnstile ≡ c.args.turnstile) c.args.first.knows.opening c.close.result.entries i (get_or c.args.hands.now i d).worker.seen (get_or c.run_all.new.hands i d) (get_or c.gather-last.new.hands i d) ended kept
    (c.close.ensures.entries.own i ∙ ⊎_elim
    (λ (z : i ≡ 0). own_first c.gather-last.result.knows i (z ∙ sym c.gather-last.ensures.same.0) ∙ (c.gather-last.ensures.same.3 ∙ ap (λ p. p.knows.mine) (c.leave-own.ensures.pass ended.place (ap (λ h. h.engaged) (get_or_default c.run_all.new.hands 0 x d zero_in ∙ ap (λ (n : ℕ). get_or c.run_all.new.hands n d) (sym z)) ∙ ended.is))))
    (λ (o : i ≢ 0). own_other c.gather-last.result.knows ended.place.pass.knows i (λ e. o (e ∙ c.gather-last.ensures.same.0))
    (c.gather-last.ensures.joined i d ended.place (omega (arith, o)) within_left (ap (λ h. h.engaged) (get_or-set_other c.run_all.new.hands 0 i c.leave-own.new.self d o) ∙ ended.is)))
    (same_or_not i 0))

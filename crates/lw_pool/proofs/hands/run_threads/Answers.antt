use Rattle.std.proofs.Common.{◌≡◌, subst₂}
use denote.Exit.{no}
use denote.Param.{param}
use denote.Plain.{UInt}
use mir.Syntax.{named, w32}
use denote.Param.Send.{param_send, arg_send, shr_sync, shr_slice_sync, plain_sync}
use Rattle.std.proofs.alloc.Global.TheSendSync as global
use Rattle.lw_words.proofs.word.Word.TheSendSync as word
use Rattle.lw_pool.proofs.CrewSends.{hand_send, turnstile_sync, capture_sync}
use Rattle.lw_pool.specs.bodies.Crew.{HasRun}
use Rattle.lw_pool.proofs.hands.run_threads.Lts as lts
use Rattle.lw_pool.proofs.hands.run_threads.Goals as goal

pub for_each_mut-requires-send-T : goal.for_each_mut-requires-send-T
for_each_mut-requires-send-T g c κs within = param_send 1 _ (arg_send _ no _ (hand_send (param 0 g.row.S) g.S.Sul c.type_bounds.send-S))

-- `name-14` is the closure's name, which Rattle gives: see its `Lts` where this is refused
pub for_each_mut-requires-sync-F : goal.for_each_mut-requires-sync-F
for_each_mut-requires-sync-F g c κs within = record { shared = (capture_sync (lts.name-14 g.row.S g.row.R g.S.laws g.R.laws g.S.Sul g.S.Sul-dict g.R.Threads g.R.Threads-dict g.R.Wait g.R.Wait-dict) _ _ _ _ _ (shr_sync (named 6) κs.1.1.1.1.1.1.0 (param 1 g.row.R) c.type_bounds.sync-R) (shr_sync (named 7) κs.1.1.1.1.1.1.1.0 _ global.the_sync) (shr_sync (named 8) κs.1.1.1.1.1.1.1.1.0 _ turnstile_sync) (shr_slice_sync (named 9) κs.1.1.1.1.1.1.1.1.1.0 _ word.the_sync) (shr_sync (named 10) κs.1.1.1.1.1.1.1.1.1.1.0 (UInt w32) (plain_sync _ _ _ _ _))).shared }

pub returns-clause-run : goal.returns-clause-run
returns-clause-run g c i d lt = let e = (c.for_each_mut.ensures i d lt).1 in subst₂ (HasRun (λ p. p.turnstile ≡ c.args.turnstile.now)) e.argument_is e.left e.call

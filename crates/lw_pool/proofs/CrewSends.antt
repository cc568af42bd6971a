-- A desk may go to another thread, and so may a pass of its turnstile, which threads may share.
use denote.Param.Send.{IsSend, IsSync, view_send, sendable, owning_send}
use denote.Param.SendFields.{declared_send, declared_sync, as_row_sync}
use denote.Struct.Field.{row_field}
use denote.Struct.Tuple.{TupleAt, type_at}
use mathlib.Core.List.{List, [], ◌∷◌}
use Prim.Native.Nat.{ℕ}
use denote.RattleType.{RattleType}
use Rattle.std.proofs.Crossing.{crosses}
use Rattle.lw_sul.specs.declared.system.Sul as sul
use Rattle.lw_turn.specs.contracts.pass.PassParts as pass
use Rattle.lw_turn.specs.contracts.turnstile.Turnstile as turnstile
use Rattle.lw_turn.proofs.pass.PassParts.TheSendSync as pass_crosses
use Rattle.lw_turn.proofs.turnstile.Turnstile.TheSendSync as turnstile_crosses
use Rattle.lw_desk.specs.contracts.ask.Ask as ask
use Rattle.lw_desk.specs.contracts.ask.Reply as reply
use Rattle.lw_desk.specs.contracts.opening.Opening as opening
use Rattle.lw_desk.specs.contracts.desk.Desk as desk
use Rattle.lw_desk.specs.contracts.desk.DeskCore.TheImpl as core
use Rattle.lw_desk.specs.contracts.desk.Desk.TheInside as inside
use Rattle.lw_desk.proofs.board.Board.TheSendSync as board
use Rattle.lw_desk.proofs.ask.Reply.TheSendSync as reply_crosses
use Rattle.lw_pool.specs.contracts.crew.Engaged as engaged
use Rattle.lw_pool.specs.contracts.worker.Worker as worker
use Rattle.lw_pool.specs.contracts.hands.Hand as hand
use Rattle.lw_pool.proofs.worker.Worker.TheSendSync as worker_crosses

inside_send : IsSend inside.the_row
inside_send = declared_send inside.the_type (search (crosses, sendable, board.the_send) depth 60 fits 20000, (search (crosses, sendable) depth 60 fits 20000, (search (crosses, sendable) depth 60 fits 20000, (search (crosses, sendable) depth 60 fits 20000, (search (crosses, sendable, owning_send) depth 60 fits 20000, tt)))))

pub desk_send : IsSend desk.the_row
desk_send = view_send inside.the_row _ _ _ _ inside_send

pub pass_send : IsSend (pass.the_row desk.the_row opening.the_row ask.the_row reply.the_row core.ghosts)
pass_send = pass_crosses.the_send desk.the_row opening.the_row ask.the_row reply.the_row core.ghosts desk_send

pub turnstile_sync : IsSync (turnstile.the_row desk.the_row opening.the_row ask.the_row reply.the_row core.ghosts)
turnstile_sync = turnstile_crosses.the_sync desk.the_row opening.the_row ask.the_row reply.the_row core.ghosts desk_send

engaged_send : IsSend engaged.the_row
engaged_send = declared_send engaged.the_type (search (crosses, sendable, pass_send) depth 60 fits 20000, (search (crosses, sendable, reply_crosses.the_send) depth 60 fits 20000, tt))

pub hand_send : (S : RattleType) (g : sul.Ghosts S.Denot) → IsSend S → IsSend (hand.the_row S g)
hand_send S g s =
    let w : IsSend (worker.the_row S g) = worker_crosses.the_send S g s in
    declared_send (hand.the_type S g) (search (crosses, sendable, w) depth 60 fits 20000, (search (crosses, sendable, engaged_send) depth 60 fits 20000, tt))

-- what a closure captures may be shared where each part may
pub capture_sync : (ν : List ℕ) (a b c d e : RattleType) → IsSync a → IsSync b → IsSync c → IsSync d → IsSync e → IsSync (TupleAt ν (a ∷ b ∷ c ∷ d ∷ e ∷ []))
capture_sync ν a b c d e p q r s t = declared_sync (type_at ν (a ∷ b ∷ c ∷ d ∷ e ∷ [])) (as_row_sync (row_field a) p, (as_row_sync (row_field b) q, (as_row_sync (row_field c) r, (as_row_sync (row_field d) s, (as_row_sync (row_field e) t, tt)))))

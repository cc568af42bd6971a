-- Streams and links may go to another thread where what they wrap may.
use denote.RattleType.{RattleType}
use denote.Param.Send.{IsSend, sendable}
use denote.Param.SendFields.{declared_send}
use Rattle.std.proofs.Crossing.{crosses}
use Rattle.std.specs.contracts.io.pipes.PipeReader as reader
use Rattle.std.specs.contracts.io.pipes.PipeWriter as writer
use Rattle.std.specs.contracts.io.pipes.PipeReaderRead.TheImpl as reads
use Rattle.std.specs.contracts.io.pipes.PipeWriterWrite.TheImpl as writes
use Rattle.std.specs.declared.io.traits.Read as read
use Rattle.std.specs.declared.io.traits.Write as write
use Rattle.lw_adapters.specs.contracts.pipe_link.PipeLink as link
use Rattle.lw_adapters.specs.contracts.streams.Input as input
use Rattle.lw_adapters.specs.contracts.streams.Stream as stream

pub stream_send : (W : RattleType) (g : write.Ghosts W.Denot) → IsSend W → IsSend (stream.the_row W g)
stream_send W g s =
    declared_send (stream.the_type W g) (search (crosses, sendable, s) depth 60 fits 20000, (search (crosses, sendable) depth 60 fits 20000, (search (crosses, sendable) depth 60 fits 20000, (search (crosses, sendable) depth 60 fits 20000, tt))))

pub input_send : (S : RattleType) (g : read.Ghosts S.Denot) → IsSend S → IsSend (input.the_row S g)
input_send S g s =
    declared_send (input.the_type S g) (search (crosses, sendable, s) depth 60 fits 20000, (search (crosses, sendable) depth 60 fits 20000, (search (crosses, sendable) depth 60 fits 20000, (search (crosses, sendable) depth 60 fits 20000, (search (crosses, sendable) depth 60 fits 20000, tt)))))

pub link_send : (W S : RattleType) (g : write.Ghosts W.Denot) (h : read.Ghosts S.Denot) → IsSend W → IsSend S → IsSend (link.the_row W S g h)
link_send W S g h w s =
    declared_send (link.the_type W S g h) (search (crosses, sendable) depth 60 fits 20000, (search (crosses, sendable, stream_send W g w) depth 60 fits 20000, (search (crosses, sendable, input_send S h s) depth 60 fits 20000, (search (crosses, sendable) depth 60 fits 20000, (search (crosses, sendable) depth 60 fits 20000, (search (crosses, sendable) depth 60 fits 20000, tt))))))

pub real_link_send : IsSend (link.the_row writer.the_row reader.the_row writes.ghosts reads.ghosts)
real_link_send = link_send writer.the_row reader.the_row writes.ghosts reads.ghosts (search (crosses, sendable) depth 60 fits 20000) (search (crosses, sendable) depth 60 fits 20000)

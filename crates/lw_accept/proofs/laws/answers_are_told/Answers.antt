use Rattle.lw_accept.proofs.TellLemmas as lemma
use Rattle.lw_accept.proofs.laws.answers_are_told.Goals as goal

pub returns : goal.returns
returns c = record { told = lemma.answers_are_told; sure = lemma.acceptors_are_sure; none = lemma.others_give_none }

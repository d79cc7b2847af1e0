-- The filled array is 0 behind the words copied.
use Rattle.schedule.proofs.Answers.{made_is}
use Rattle.schedule.proofs.copy_out.Goals as goal

pub returns : goal.returns
returns c = made_is _ _ c.copy_in.ensures

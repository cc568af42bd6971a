use Rattle.std.proofs.Common.{refl}
use Rattle.lw_plain.proofs.laws.as_worked.Goals as goal

pub returns : goal.returns
returns c = record {
  first = refl;
  guess = refl;
  search = refl;
  refined = refl;
  closed = refl;
  model = refl;
  crowd = refl;
  full = refl;
}

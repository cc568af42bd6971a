-- The other ends of a spawner's links.
use Rattle.std.specs.Prelude.{map}
use Rattle.lw_outside.specs.Memory.{Speakers, AllPlay, EachRecites}
use Rattle.lw_outside.specs.declared.cast.Cast.{Cast}
use Rattle.lw_outside.specs.declared.cast.Cast.TheVariants.{AllServe, EachReads}

abbrev pub cast_of : Cast → Speakers
cast_of (AllServe m) = AllPlay m
cast_of (EachReads scripts) = EachRecites (map (λ s. s.items) scripts.items)

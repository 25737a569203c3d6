-- The starred cases of document 01, by computing. Assumes nothing.
use mathlib.Core.Path.{refl}
use Rattle.credits.specs.Grant.{grant_of}
use Rattle.routing.specs.Way.{highest}
use Rattle.tokens.specs.Header.{header_of}
use Rattle.cases.specs.Starred.{Starred}

pub starred : Starred
unfolding header_of highest grant_of
starred =
    record {
      three_byte = refl;
      five = refl;
      nine = refl;
      same = refl;
      top = refl;
      third = refl;
      low_same = refl;
      low_differ = refl;
      none_held = refl;
      forty_held = refl;
      room_for_8 = refl;
      room_for_7 = refl;
    }

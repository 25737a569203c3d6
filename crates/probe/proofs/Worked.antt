-- The worked examples, by computing. Assumes nothing.
use mathlib.Core.Path.{refl}
use Rattle.laws.specs.All.{all, first}
use Rattle.probe.specs.Wires.{changed, after, high}
use Rattle.probe.specs.Digits.{number, ones}
use Rattle.probe.specs.Form.{written, whole, said_at, gathered, first_meaningless}
use Rattle.probe.specs.Serial.{serial, serial_one, serial_says}
use Rattle.probe.specs.Fast.{fast, fast_one, fast_says, link_value, special, least_of, returned, closing, control_said, symbols_say}
use Rattle.probe.specs.Calls.{delivered, reading}
use Rattle.probe.specs.Examples.{AllHold}

pub worked : AllHold
unfolding all first changed after high number ones written whole said_at gathered first_meaningless serial serial_one serial_says fast fast_one fast_says link_value special least_of returned closing control_said symbols_say delivered reading
worked =
    (refl, (refl, (refl, (refl, (refl, (refl, (refl, (refl, (refl, (refl, (refl, (refl, (refl, (refl, (refl, (refl, (refl, (refl, (refl, (refl, (refl, (refl, (refl, (refl, (refl, (refl, tt))))))))))))))))))))))))))

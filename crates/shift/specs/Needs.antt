-- What a record's Step asks on its way, and who meets it: the record before, or a test of the whole state.
use Prim.{Unit}
use Rattle.std.specs.Prelude.{◌≡◌, Bool, true, false, ◌&&◌, ◌||◌}
use Rattle.cells.specs.World.{World}
use Rattle.sound.specs.Sound.{sound, tight}

-- nothing is asked where nothing is known
abbrev pub Sure : Bool → World → Type 0
Sure true w = (sound w ≡ true) × (tight w ≡ true)
Sure false w = Unit

-- known before; or found, where there are more records to come
abbrev pub known : Bool → Bool → World → Bool
known sure more w = sure || (more && (sound w && tight w))

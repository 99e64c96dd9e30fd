-- The tried inputs: each is computed.
use mathlib.Core.Path.{refl}
use Rattle.handed.specs.Reading.{files_of}
use Rattle.class.specs.Tried.{TriedClasses}

pub tried_classes : TriedClasses
unfolding files_of
tried_classes = record {
  none = refl;
  two = refl;
  little_endian = refl;
  cut_length = refl;
  cut_file = refl;
  sixteen = refl;
  seventeen = refl;
  seventeenth_cut = refl;
  no_room = refl;
  first_cut = refl;
  no_work = refl;
}

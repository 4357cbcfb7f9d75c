-- What a library holds.
use Rattle.std.specs.Prelude.{◌≡◌}
use Rattle.gds_model.specs.Library.{StreamLibrary, IsLayout, names}
use Rattle.gds_library.specs.declared.library.Library.TheInside.{Inside}

abbrev pub library_held : Inside → StreamLibrary
library_held l = record { head = l.head; structures = l.structures.items }

-- it is a layout, and the names are those of the structures in file order
pub record IsHeld (l : Inside) : Type 0 where
  pub layout : IsLayout (library_held l)
  pub names : l.names ≡ names l.structures.items

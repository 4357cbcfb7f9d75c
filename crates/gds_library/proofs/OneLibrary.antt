-- A file without fault describes one library.
use Rattle.std.proofs.Common.{◌≡◌, ℕ, List, ap, sym, ◌∙◌}
use Rattle.gds_model.specs.Library.{StreamLibrary, IsLibraryOf}
use Rattle.gds_library.specs.Gathered.{nothing_gathered, with_records}
use Rattle.gds_library.proofs.Drafting.{library_taken}

pub one_library : (bytes : List ℕ) (l m : StreamLibrary) → IsLibraryOf bytes l → IsLibraryOf bytes m → l ≡ m
one_library bytes l m a b =
    a.same ∙ sym (library_taken a.tree)
    ∙ ap (λ rs. (with_records nothing_gathered rs).library) (a.spelled ∙ sym b.spelled)
    ∙ library_taken b.tree ∙ sym b.same

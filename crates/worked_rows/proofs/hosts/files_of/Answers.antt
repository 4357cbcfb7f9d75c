use Rattle.std.proofs.Common.{◌≡◌, false, refl}
use Rattle.std.specs.Prelude.{codes}
use Rattle.std.specs.Str.{bytes_eq}
use Rattle.worked_rows.proofs.Apart.{two_keys}
use Rattle.worked_rows.proofs.hosts.files_of.Goals as goal

pub returns : goal.returns
returns c =
    let first : c.from_string.result ≡ codes "layout" = cc (c.in_ok-from_str.ensures.ok, c.from_string.ensures.bytes) in
    let second : c.from_string-2.result ≡ codes "kernels" = cc (c.in_ok-from_str-2.ensures.ok, c.from_string-2.ensures.bytes) in
    let apart : bytes_eq c.from_string.result c.from_string-2.result ≡ false = rw (first, second) refl in
    rw (c.in_ok-push-2.ensures.items, c.in_ok-push.ensures.items, c.new-files.ensures.items) (two_keys bytes_eq c.from_string.result c.from_string-2.result apart)

-- What stands before the kernels, as the reader keeps it.
use Rattle.std.specs.Prelude.{◌≡◌, ◌≤◌, ℕ, true, List, length}
use Rattle.kernel_file.specs.declared.head.Head.{Head}
use Rattle.kernel_file.specs.KernelFile.{has_magic, format_of, count_of, reach_of, covered_of, uncovered_of, file_len}

abbrev pub head_of : List ℕ → Head
head_of bytes = record {
  format = format_of bytes;
  count = count_of bytes;
  reach = reach_of bytes;
  covered = covered_of (format_of bytes) bytes;
  uncovered = uncovered_of (format_of bytes) bytes;
}

-- the numbers of the head are in range, and the file has the length that they give
pub record FitsHead (bytes : List ℕ) : Type 0 where
  pub magic : has_magic bytes ≡ true
  pub some : 1 ≤ count_of bytes
  pub few : count_of bytes ≤ 16
  pub near : reach_of bytes ≤ 64
  pub length_is : length bytes ≡ file_len bytes

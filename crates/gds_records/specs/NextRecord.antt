-- What `next_record` answers.
use Rattle.std.specs.Prelude.{◌≡◌, ℕ, ◌+◌, ◌*◌, List, length}
use Rattle.gds_records.specs.declared.reading.Record.{Record}
use Rattle.gds_records.specs.declared.reading.Next.{Next}
use Rattle.gds_records.specs.declared.reading.Next.TheVariants as next
use Rattle.gds_records.specs.Records.{StreamRecord, StandsAt, IsCut, IsBadLength}

-- a record without where it lies in memory
abbrev pub seen : Record → StreamRecord
seen r = record { offset = r.offset; code = 256 * r.kind + r.data_type; body = r.body.now }

abbrev pub IsNext : List ℕ → ℕ → Next → Type 0
IsNext bytes at (next.Record r) = StandsAt bytes at (seen r)
IsNext bytes at next.End = at ≡ length bytes
IsNext bytes at (next.Cut offset) = (offset ≡ at) × IsCut bytes at
IsNext bytes at (next.BadLength offset) = (offset ≡ at) × IsBadLength bytes at

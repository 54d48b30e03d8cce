-- The bytes of a number as the library has them, most significant first, are those of the layout of so many bytes.
-- Assumes nothing.
use Rattle.std.specs.Prelude.{ℕ, ◌≤◌, ◌≡◌, List, length, take}
use Rattle.std.specs.Int.{w32, w64, from_be_bytes, to_be_bytes}
use Rattle.std.proofs.Common.{arith, rules}
use Rattle.layout.specs.Layout.{pack, unpack, bytes}
use Rattle.layout.specs.laws.Laws.{take_firsts}

pub read_4 : (s : List ℕ) → 4 ≤ length s → from_be_bytes w32 (take 4 s) ≡ pack (bytes 4) (take 4 s)
read_4 s h = rw (take_firsts 4 s h) (omega arith)

pub read_8 : (s : List ℕ) → 8 ≤ length s → from_be_bytes w64 (take 8 s) ≡ pack (bytes 8) (take 8 s)
read_8 s h = rw (take_firsts 8 s h) (omega arith)

pub written_4 : (n : ℕ) → to_be_bytes w32 n ≡ unpack (bytes 4) n
written_4 n = search rules

pub written_8 : (n : ℕ) → to_be_bytes w64 n ≡ unpack (bytes 8) n
written_8 n = search rules

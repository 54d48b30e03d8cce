-- Numbers in bytes, most significant byte first: what is read from the front of a list of bytes, and what stands in one after writing.
use Rattle.std.specs.Prelude.{ℕ, ◌+◌, ◌*◌, ◌^◌, cond, List, ◌++◌, length, take, drop, ltb}
use Rattle.layout.specs.Layout.{pack, unpack, bytes}
use Rattle.layout.specs.declared.Short.{Short}
use Rattle.layout.specs.declared.Long.{Long}

-- the number of 96 bits that a `Short` stands for
abbrev pub short_of : Short → ℕ
short_of n = n.hi * 2 ^ 32 + n.lo

-- the number of 128 bits that a `Long` stands for
abbrev pub long_of : Long → ℕ
long_of n = n.hi * 2 ^ 64 + n.lo

-- the number in the first k bytes; 0 where there are fewer
unfoldable pub read_of : ℕ → List ℕ → ℕ
read_of k s = cond (ltb (length s) k) 0 (pack (bytes k) (take k s))

-- the bytes after a number was written into the first k; as they were where there are fewer
unfoldable pub written_of : ℕ → ℕ → List ℕ → List ℕ
written_of k n o = cond (ltb (length o) k) o (unpack (bytes k) n ++ drop k o)

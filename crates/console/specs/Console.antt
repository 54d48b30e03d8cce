-- What is known of an input that was read and when it looks like a text, and when whoever reads what is written has gone.
use Rattle.std.specs.Prelude.{◌≡◌, ℕ, ◌≤◌, ◌<◌, Bool, true, false, cond, List, [], ◌∷◌, ltb, eqb, length, take, Option, Some, None, Result, IsErrAnd}
use Rattle.std.specs.Io.KnownBytes.{Consumes, IsAtEnd}
use Rattle.std.specs.IoError.{error_kind}
use Rattle.std.specs.declared.io.Error.{Error}
use Rattle.std.specs.declared.io.ErrorKind.TheVariants.{BrokenPipe}
use Rattle.console.specs.declared.Said.{Said}

-- the first bytes of the input were read, no more than the space has
abbrev pub Loaded : Option ℕ → List ℕ → Type 0
Loaded (Some n) space = n ≤ length space
Loaded None space = Unit {0}

-- of an input whose bytes are known: what was read are its first bytes, and where the space has room for more nothing is left of it
abbrev pub Came : Option (List ℕ) → Option (List ℕ) → Option ℕ → List ℕ → Type 0
Came old new (Some n) space = Consumes old new (take n space) × (n < length space → IsAtEnd new)
Came old new None space = Unit {0}

-- a quote, 34, a digit, 48 to 57, or the first byte of a byte-order mark, 239
abbrev pub begins_text : ℕ → Bool
begins_text b = cond (ltb b 48) (eqb b 34) (cond (ltb b 58) true (eqb b 239))

-- it begins as a text does
unfoldable pub looks_like_text : List ℕ → Bool
looks_like_text [] = false
looks_like_text (b ∷ s) = begins_text b

-- what a write gave is that whoever read the output has gone
abbrev pub Broke : {A : Type 0} → Result A Error → Type 0
Broke written = IsErrAnd written (λ e. error_kind e ≡ BrokenPipe)

-- what is said is written to this
abbrev pub said_to : {W : Type 0} → Said W → W
said_to s = s.to

-- whether whoever read it has gone
abbrev pub has_gone : {W : Type 0} → Said W → Bool
has_gone s = s.gone

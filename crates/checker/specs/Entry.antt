-- A verdict in the output, bit by bit: its fields as values of the layout and back; its first fault; reading and writing one.
use Rattle.std.specs.Prelude.{ℕ, Bool, true, cond, List, [], ◌∷◌, ◌++◌, length, get_or, take, drop, ltb, eqb, Result, Ok, Err}
use Rattle.quantity.specs.Range.{from, modulus}
use Rattle.loads.specs.declared.Source.TheVariants.{Cargo}
use Rattle.loads.specs.Sources.{number_of}
use Rattle.layout.specs.Layout.{pack, unpack, bytes}
use Rattle.layout.specs.Line.{Line, line, widths, fault_from}
use Rattle.sheet.specs.Lines.{ids}
use Rattle.sheet.specs.Refusals.{Answer, given, refused, told, Wrote}
use Rattle.checker.specs.declared.Entry.{Entry}
use Rattle.sheet.specs.declared.Refusal.{Refusal}

-- a verdict: id, rule, required, source; a pass (rule 0) requires nothing, and no gauge goes higher than that of W
abbrev pub verdict_table : (passed : Bool) → List Line
verdict_table passed = line 10 ids ∷ line 3 (from 0 6) ∷ line 17 (from 0 (cond passed 0 modulus.high)) ∷ line 2 (from 0 (number_of Cargo)) ∷ []

-- the lines that verdicts of a rule answer to
abbrev pub verdict_lines : (rule : ℕ) → List Line
verdict_lines rule = verdict_table (eqb rule 0)

-- the widths alone, which rest on no field
abbrev pub verdict_widths : List ℕ
verdict_widths = widths (verdict_table true)

-- the fields' values in layout order
abbrev pub entry_values : Entry → List ℕ
entry_values e = e.id ∷ e.rule ∷ e.required ∷ e.source ∷ []

-- the entry that values are
abbrev pub entry_at : List ℕ → Entry
entry_at vs = record { id = get_or vs 0 0; rule = get_or vs 1 0; required = get_or vs 2 0; source = get_or vs 3 0 }

-- the first faulty field, id being 1; 0 where there is none
unfoldable pub entry_fault : Entry → ℕ
entry_fault e = fault_from 1 (verdict_lines e.rule) (entry_values e)

-- by the first faulty field: 7 with the field, as in record 0
abbrev pub entry_refused : {A : Type 0} → ℕ → Answer A → Answer A
entry_refused f fine = cond (eqb f 0) fine (refused 7 f)

-- the entry in a number of 32 bits
unfoldable pub entry_in : ℕ → Answer Entry
entry_in n = let e = entry_at (unpack verdict_widths n) in entry_refused (entry_fault e) (given e)

-- reading: 1 where there are under 4 bytes, then 7; bytes past the fourth play no part
unfoldable pub read_entry : List ℕ → Answer Entry
read_entry s = cond (ltb (length s) 4) (refused 1 0) (entry_in (pack (bytes 4) (take 4 s)))

-- the number of 32 bits that an entry is
abbrev pub entry_number : Entry → ℕ
entry_number e = pack verdict_widths (entry_values e)

-- its four bytes
abbrev pub entry_bytes : Entry → List ℕ
entry_bytes e = unpack (bytes 4) (entry_number e)

-- writing: 5 where there are under 4 bytes, then 7; a refusal leaves every byte, and else the first four are the entry's
unfoldable pub write_entry : Entry → List ℕ → Wrote
write_entry e o =
    cond (ltb (length o) 4)
    (record { answer = refused 5 0; bytes = o })
    (record {
      answer = entry_refused (entry_fault e) (given tt);
      bytes = cond (eqb (entry_fault e) 0) (entry_bytes e ++ drop 4 o) o;
    })

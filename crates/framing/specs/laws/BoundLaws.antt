-- A member within its values meets the bounds that keep the rules' products within 64 bits.
-- Assumes nothing.
use Rattle.std.specs.Prelude.{ℕ, ◌≤◌}
use Rattle.quantity.specs.Range.{line_load}
use Rattle.loads.specs.laws.Bounds.{either, sea_bound, deep_bound, line_bound}
use Rattle.sheet.specs.Kinds.{is_deep}
use Rattle.sheet.specs.Ranges.{HeaderRanges, MemberRanges}
use Rattle.sheet.specs.declared.Header.{Header}
use Rattle.sheet.specs.declared.Member.{Member}
use Rattle.framing.specs.Rules.{member_line, member_pressure}

-- the line load of a member within its values
pub member_line_high : (h : Header) (kind : ℕ) (m : Member) → HeaderRanges h → MemberRanges kind m → member_line h kind m ≤ line_load.high
unfolding member_line
member_line_high h kind m r s =
    let D0 = h.draught.0 in
    let H = h.wave.0 in
    line_bound (member_pressure h kind m) m.spacing.0
    (either (is_deep kind) _ _ _ (deep_bound D0 H r.draught_high r.wave_high h.two_runs) (sea_bound D0 H r.draught_high r.wave_high m.z.0))
    s.spacing_high

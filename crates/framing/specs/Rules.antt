-- Rules 4, 5 and 6, which members answer to: L, D0, H, z, l in cm, S in mm, T in hundredths of a mm, W in tenths of a cm³, A in hundredths of a cm²,
-- βb, βs, η in hundredths, σ1 in N/mm², q in N/m, K = 1000k. `-` is cut off at 0.
use Rattle.std.specs.Prelude.{ℕ, ◌+◌, ◌-◌, ◌*◌, Bool, ◌&&◌, cond, List, [], ◌∷◌, leb, ltb}
use Rattle.quantity.specs.Range.{thickness, modulus, shear_area}
use Rattle.loads.specs.Loads.{sea, deep_pressure, line_load}
use Rattle.loads.specs.Sources.{Named, on_longitudinal, on_deep, deciding}
use Rattle.sheet.specs.Kinds.{is_floor, is_deep}
use Rattle.sheet.specs.declared.Header.{Header}
use Rattle.sheet.specs.declared.Member.{Member}
use Rattle.verdict.specs.declared.Verdict.{Verdict}
use Rattle.verdict.specs.Verdict.{Rule, verdict_of}
use Rattle.verdict.specs.Judged.{Finding}

-- X = t − short, X ≥ 0 and a·X² ≥ p
abbrev pub squared : ℕ → ℕ → ℕ → ℕ → Bool
squared a t short p = let X = t - short in leb short t && leb p (a * (X * X))

-- a vessel under L = 12000
abbrev pub is_short : ℕ → Bool
is_short L = ltb L 12000

-- the web. Kind 5 under L = 12000: X = 100T − 16300 − 45S ≥ 0, 6250X² ≥ L²K; from 12000: X = 10T − S ≥ 0, X² ≥ 15210K.
-- Kinds 6 to 8: X = 100T − 38000 ≥ 0, 3125X² ≥ 8L²K
unfoldable pub rule4 : ℕ → ℕ → ℕ → ℕ → ℕ → Bool
rule4 kind L K S T =
    cond (is_deep kind)
    (squared 3125 (100 * T) 38000 (8 * (L * L) * K))
    (cond (is_short L) (squared 6250 (100 * T) (16300 + 45 * S) (L * L * K)) (squared 1 (10 * T) S (15210 * K)))

-- a·W(limit − σ1) ≥ p; at σ1 = limit and above nothing meets it, not even with p = 0
abbrev pub stressed : ℕ → ℕ → ℕ → ℕ → ℕ → Bool
stressed a limit σ1 W p = ltb σ1 limit && leb p (a * W * (limit - σ1))

-- the form for kind 5, for kinds 6 and 7, or for kind 8
abbrev pub by_kind : ℕ → Bool → Bool → Bool → Bool
by_kind kind longitudinal floor girder = cond (is_deep kind) (cond (is_floor kind) floor girder) longitudinal

-- the modulus. Kind 5: 10¹¹·W(214 − σ1) ≥ 833βbηql². Kinds 6, 7: 5·10⁹·W ≥ 29βbql². Kind 8: 2·10⁹·W(197 − σ1) ≥ 25βbηql²
unfoldable pub rule5 : ℕ → ℕ → ℕ → ℕ → ℕ → ℕ → ℕ → Bool
rule5 kind βb η σ1 q l W =
    by_kind kind
    (stressed 100000000000 214 σ1 W (833 * βb * η * q * (l * l)))
    (leb (29 * βb * q * (l * l)) (5000000000 * W))
    (stressed 2000000000 197 σ1 W (25 * βb * η * q * (l * l)))

-- shear. Kind 5: 2·10⁹·A ≥ 9βsηql. Kinds 6, 7: 2·10⁷·A ≥ 9βsql. Kind 8: 12,500,000·A ≥ 7βsql
unfoldable pub rule6 : ℕ → ℕ → ℕ → ℕ → ℕ → ℕ → Bool
rule6 kind βs η q l A =
    by_kind kind
    (leb (9 * βs * η * q * l) (2000000000 * A))
    (leb (9 * βs * q * l) (20000000 * A))
    (leb (7 * βs * q * l) (12500000 * A))

-- kind 5: sea at z; kinds 6 to 8: that of the whole draught
abbrev pub member_pressure : Header → ℕ → Member → ℕ
member_pressure h kind m =
    let D0 = h.draught.0 in
    let H = h.wave.0 in
    cond (is_deep kind) (deep_pressure D0 H h.two_runs) (sea D0 H m.z.0)

-- the loads that bear on the member, and the one of them that decides
abbrev pub member_loads : Header → ℕ → Member → List Named
member_loads h kind m =
    let D0 = h.draught.0 in
    let H = h.wave.0 in
    cond (is_deep kind) (on_deep D0 H h.two_runs) (on_longitudinal D0 H m.z.0)

abbrev pub member_named : Header → ℕ → Member → Named
member_named h kind m = deciding (member_loads h kind m)

-- q, the line load of that pressure on the member's spacing
unfoldable pub member_line : Header → ℕ → Member → ℕ
member_line h kind m = line_load (member_pressure h kind m) m.spacing.0

-- rule 4 as a member has to answer to it: its web
abbrev pub web_rule : Header → ℕ → Member → Rule
web_rule h kind m =
    record { number = 4; asks = rule4 kind h.length.0 m.factor.0 m.spacing.0; top = thickness.high; has = m.thickness.0 }

-- rule 5: its section modulus
abbrev pub bending_rule : Header → ℕ → Member → Rule
bending_rule h kind m =
    record { number = 5; asks = rule5 kind m.bending m.eta m.stress (member_line h kind m) m.span.0; top = modulus.high; has = m.modulus.0 }

-- rule 6: its shear area
abbrev pub shear_rule : Header → ℕ → Member → Rule
shear_rule h kind m =
    record { number = 6; asks = rule6 kind m.shear m.eta (member_line h kind m) m.span.0; top = shear_area.high; has = m.area.0 }

-- the three in their order
abbrev pub member_rules : Header → ℕ → Member → List Rule
member_rules h kind m = web_rule h kind m ∷ bending_rule h kind m ∷ shear_rule h kind m ∷ []

-- the first of them that fails, with what it requires
abbrev pub member_verdict : Header → ℕ → Member → Verdict
member_verdict h kind m = verdict_of (member_rules h kind m)

-- the verdict, and what the member's pressure comes from
abbrev pub member_finding : Header → ℕ → Member → Finding
member_finding h kind m = record { verdict = member_verdict h kind m; source = (member_named h kind m).source }

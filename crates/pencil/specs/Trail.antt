-- The trail of a member: how its least scantlings are worked out, as sections of lines, each line by its template's number.
use Rattle.std.specs.Prelude.{ℕ, ◌+◌, ◌-◌, ◌*◌, ◌/◌, ◌%◌, ◌≡◌, Bool, false, cond, List, [], ◌∷◌, ◌++◌, length, replicate, get_or, leb, ltb, eqb}
use mir.Val.{bool_byte}
use Rattle.quantity.specs.Range.{thickness, modulus, shear_area}
use Rattle.gauge.specs.declared.Shape.{Shape}
use Rattle.gauge.specs.Least.{number_of}
use Rattle.gauge.specs.Shape.{least_of}
use Rattle.gauge.specs.Worked.{first_in}
use Rattle.sheet.specs.declared.Header.{Header}
use Rattle.sheet.specs.declared.Record.{Record}
use Rattle.sheet.specs.declared.Plate.{Plate}
use Rattle.sheet.specs.declared.Member.{Member}
use Rattle.sheet.specs.declared.Body.{Body}
use Rattle.sheet.specs.declared.Body.TheVariants.{Plate as isPlate, Member as isMember}
use Rattle.sheet.specs.Kinds.{is_long, is_deep}
use Rattle.sheet.specs.Record.{of_plate, of_member}
use Rattle.sheet.specs.Refusals.{Answer, given as isGiven, refused}
use Rattle.verdict.specs.declared.Verdict.{Verdict}
use Rattle.verdict.specs.Verdict.{Rule}
use Rattle.verdict.specs.Judged.{judged_by, Sound}
use Rattle.loads.specs.Sources.{Named}
use Rattle.plating.specs.Rules.{plate_loads, asked1, asked2, asked3, plate_verdict}
use Rattle.plating.specs.Work.{Work as PlateWork, work_of as plateWork}
use Rattle.framing.specs.Rules.{is_short, member_named, web_rule, bending_rule, shear_rule, member_verdict}
use Rattle.framing.specs.Work.{Work as MemberWork, work_of as memberWork}
use Rattle.wording.specs.Words.{pieces}
use Rattle.wording.specs.Writes.{text_of}
use Rattle.pencil.specs.declared.Section.{Section}
use Rattle.pencil.specs.declared.Work.{Work}
use Rattle.pencil.specs.declared.Trail.{Trail}
use Rattle.pencil.specs.Templates.{text, Holds}
use Rattle.pencil.specs.Numbers.{product, is_never, rule_numbers, no_more, with_ratio, load_numbers}

-- ---- lines of text

-- the longest template
abbrev pub longest : ℕ
longest = 704

-- what the templates of these numbers become
unfoldable pub line_pieces : (given own lines : List ℕ) → List (List ℕ)
line_pieces given own [] = []
line_pieces given own (t ∷ ts) = pieces given own 0 (text t) ++ line_pieces given own ts

-- a section: its lines, 0 for none, and its own registers
pub record Told : Type 0 where
  pub lines : List ℕ
  pub own : List ℕ

pub record Tells (t : Told) (s : Section) : Type 0 where
  pub lines : s.lines ≡ t.lines
  pub own : s.own ≡ t.own

-- ---- which member it is, and its loads

-- D0, H, z, zL and the cargo, and whether there is ballast: on the bottom the sea and a tank, on the inner bottom cargo and a tank, on a longitudinal the sea,
-- on others the whole draught
unfoldable pub head_of : (kind D0 H : ℕ) (two_runs : Bool) (z zL cargo : ℕ) (ballast : Bool) → Told
head_of kind D0 H two_runs z zL cargo ballast =
    let own = load_numbers D0 H z zL cargo in
    let above = bool_byte (ltb D0 z) in
    let tank = bool_byte ballast in
    let on_sea = kind ∷ 23 ∷ (9 + above) ∷ above * (11 + bool_byte (eqb H 120)) ∷ tank * 13 ∷ tank * (14 + bool_byte (ltb (get_or own 10 0) (get_or own 2 0)))
    ∷ tank * (16 + bool_byte (ltb (get_or own 9 0) (get_or own 11 0))) ∷ 22 ∷ 0 ∷ [] in
    let inner = kind ∷ 23 ∷ 18 ∷ tank * 19 ∷ 22 ∷ 0 ∷ 0 ∷ 0 ∷ 0 ∷ [] in
    let deep = kind ∷ 23 ∷ (20 + bool_byte two_runs) ∷ 22 ∷ 0 ∷ 0 ∷ 0 ∷ 0 ∷ 0 ∷ [] in
    record { lines = cond (leb kind 2) on_sea (cond (ltb kind 5) inner (cond (eqb kind 5) on_sea deep)); own = own }

-- ---- the lines of a rule

-- the last step: 1 meets the rule; the first number past the gauge, or its last, which does not; the first meets it, or the next
abbrev pub step_line : (tried unit : ℕ) (never : Bool) (first least top : ℕ) → ℕ
step_line tried unit never first least top =
    cond never 0
    (cond (eqb least 1) (71 + unit)
    (cond (eqb least 0) (cond (ltb top first) (74 + unit) (tried + 2)) (cond (eqb least first) tried (tried + 1))))

-- nothing meets the rule; met; not met
abbrev pub result_line : (base least has : ℕ) → ℕ
result_line base least has = base + bool_byte (ltb 0 least) * (1 + bool_byte (ltb has least))

-- up to six lines, the last step, the result and a last line; tried is the first template of the step, unit 0 for T, 1 for W, 2 for A
unfoldable pub ruled : (front : List ℕ) (tried unit last p a per : ℕ) (d : Shape) (top has : ℕ) (more : List ℕ) → Told
ruled front tried unit last p a per d top has more = record {
  lines = get_or front 0 0 ∷ get_or front 1 0 ∷ get_or front 2 0 ∷ get_or front 3 0 ∷ get_or front 4 0 ∷ get_or front 5 0
      ∷ step_line tried unit (is_never d) (first_in d) (number_of (least_of d top)) top
      ∷ result_line (77 + 3 * unit) (number_of (least_of d top)) has ∷ last ∷ [];
  own = rule_numbers p a per d top has more;
}

-- two lines
abbrev pub both : ℕ → ℕ → List ℕ
both t u = t ∷ u ∷ 0 ∷ 0 ∷ 0 ∷ 0 ∷ []

-- a pass; nothing will do; what is required, in the rule's unit
abbrev pub verdict_line : (rule required : ℕ) → ℕ
verdict_line rule required =
    cond (eqb rule 0) 86 (cond (eqb required 0) 87 (cond (eqb rule 5) 89 (cond (eqb rule 6) 90 88)))

-- ---- a plate

abbrev pub plate_given : Header → (kind id : ℕ) → Plate → PlateWork → List ℕ
plate_given h kind id p w =
    kind ∷ 0 ∷ 0 ∷ p.cargo ∷ h.draught.0 ∷ 0 ∷ w.load.source ∷ 0
    ∷ h.wave.0 ∷ id ∷ 0 ∷ p.factor.0 ∷ h.length.0 ∷ h.moment ∷ w.modulus ∷ 0
    ∷ w.load.pressure ∷ 0 ∷ w.stress ∷ p.spacing.0 ∷ 0 ∷ p.tank_top.0 ∷ w.verdict.rule ∷ 0
    ∷ p.b1.0 ∷ p.b2.0 ∷ p.z.0 ∷ w.k2 ∷ 0 ∷ w.verdict.required ∷ h.version ∷ 0 ∷ []

-- rule 1
unfoldable pub plate_first : Header → ℕ → Plate → PlateWork → Told
plate_first h kind p w =
    let LLK = h.length.0 * h.length.0 * p.factor.0 in
    let by : (t q a : ℕ) → Told = λ t q a. ruled (both t 0) 65 0 0 q a (36 * p.spacing.0) w.first thickness.high p.thickness.0 no_more in
    cond (eqb kind 1) (by 24 (9 * LLK) 1000) (cond (eqb kind 2) (by 25 (9 * LLK) 1000) (by 26 (8 * LLK) 3125))

-- S²KP
abbrev pub pressed : (S K P : ℕ) → ℕ
pressed S K P = product (S * S * K) P

-- rule 2
unfoldable pub plate_second : ℕ → Plate → PlateWork → Told
plate_second kind p w =
    let n = pressed p.spacing.0 p.factor.0 w.load.pressure in
    let by : (t q a : ℕ) → Told = λ t q a. ruled (both t 0) 68 0 0 q a 0 w.second thickness.high p.thickness.0 no_more in
    cond (is_long kind) (by 28 (product 9 n) 625000000000) (by 27 n 39062500000)

-- rule 3: up to R, by the kind and the version; K2; the fork; the form
abbrev pub bending_lines : (kind version side : ℕ) (second never : Bool) → List ℕ
bending_lines kind version side second never =
    let own = bool_byte (ltb 1 version) in
    let wide = bool_byte (ltb 26000 side) in
    let later = bool_byte second in
    let form = 2 * later + 4 * bool_byte never in
    cond (eqb kind 1) (29 ∷ 0 ∷ 35 ∷ (37 + wide) ∷ (39 + later) ∷ (43 + form) ∷ [])
    (cond (eqb kind 2) (30 ∷ 0 ∷ 35 ∷ 0 ∷ (41 + later) ∷ (44 + form) ∷ [])
    (cond (eqb kind 3) (31 ∷ (33 + own) ∷ (35 + own) ∷ (37 + wide) ∷ 0 ∷ (43 + form) ∷ []) (32 ∷ (33 + own) ∷ (35 + own) ∷ 0 ∷ 0 ∷ (44 + form) ∷ [])))

-- the right side of its form, p over a, and what R is held to at the gauge's last, a times 4000² over the panel
pub record FormParts : Type 0 where
  pub p : ℕ
  pub a : ℕ
  pub panel : ℕ

unfoldable pub form_of : (long second : Bool) (S K K2 R : ℕ) → FormParts
form_of long second S K K2 R =
    let left = 210000 - R in
    cond second
    (cond long
    (record { p = 1681 * (S * S * K); a = product 10 left; panel = 1521 * (S * S) })
    (record { p = product 504100000 (S * S * K); a = product (product K2 K2) left; panel = 1156 * (S * S) }))
    (cond long
    (record { p = product (1521 * (S * S)) R; a = 100000000; panel = 1521 * (S * S) })
    (record { p = product (1156 * (S * S)) R; a = product 25 (product K2 K2); panel = 1156 * (S * S) }))

-- R and K2 before they are rounded, the fork, and R at the gauge's last
abbrev pub bending_more : (kind K M Z R b1 b2 a panel : ℕ) → List ℕ
bending_more kind K M Z R b1 b2 a panel =
    1000000 * M / Z ∷ 1000000 * M % Z
    ∷ 1000 * (b1 * b1 + b2 * b2) / (b1 * b1) ∷ 1000 * (b1 * b1 + b2 * b2) % (b1 * b1)
    ∷ product ((6084 - bool_byte (eqb kind 1) * 4928) * K) R ∷ product a 16000000 / panel ∷ product a 16000000 % panel ∷ []

unfoldable pub plate_third : Header → ℕ → Plate → PlateWork → Told
plate_third h kind p w =
    let f = form_of (is_long kind) w.is_second p.spacing.0 p.factor.0 w.k2 w.stress in
    let b1 = p.b1.0 in
    let b2 = p.b2.0 in
    ruled (bending_lines kind h.version (1000 * (b1 * b1 + b2 * b2) / (b1 * b1)) w.is_second (is_never w.third))
    68 0 (verdict_line w.verdict.rule w.verdict.required) f.p f.a 0 w.third thickness.high p.thickness.0
    (bending_more kind p.factor.0 h.moment w.modulus w.stress b1 b2 f.a f.panel)

-- ---- a member

abbrev pub member_given : Header → (kind id : ℕ) → Member → MemberWork → List ℕ
member_given h kind id m w =
    kind ∷ 0 ∷ m.bending ∷ 0 ∷ h.draught.0 ∷ m.eta ∷ w.load.source ∷ m.shear
    ∷ h.wave.0 ∷ id ∷ m.span.0 ∷ m.factor.0 ∷ h.length.0 ∷ 0 ∷ 0 ∷ m.stress
    ∷ w.load.pressure ∷ w.line ∷ 0 ∷ m.spacing.0 ∷ 0 ∷ 0 ∷ w.verdict.rule ∷ 0
    ∷ 0 ∷ 0 ∷ m.z.0 ∷ 0 ∷ 0 ∷ w.verdict.required ∷ h.version ∷ 0 ∷ []

-- rule 4
unfoldable pub member_first : Header → ℕ → Member → MemberWork → Told
member_first h kind m w =
    let L = h.length.0 in
    let K = m.factor.0 in
    let by : (t q a : ℕ) → Told = λ t q a. ruled (both t 0) 65 0 0 q a (45 * m.spacing.0) w.web thickness.high m.thickness.0 no_more in
    cond (is_deep kind) (by 53 (product (8 * (L * L)) K) 3125) (cond (is_short L) (by 51 (product (L * L) K) 6250) (by 52 (product 15210 K) 1))

-- n·q·x
abbrev pub spread : (n q x : ℕ) → ℕ
spread n q x = product (product n q) x

-- rule 5
unfoldable pub member_second : ℕ → Member → MemberWork → Told
member_second kind m w =
    let ll = m.span.0 * m.span.0 in
    let q = w.line in
    let never = 3 * bool_byte (is_never w.bending) in
    let by : (t u n a : ℕ) → Told = λ t u n a. ruled (both t u) 0 1 0 n a 0 w.bending modulus.high m.modulus.0 (with_ratio (product w.load.pressure m.spacing.0) 1000000) in
    cond (ltb kind 6) (by 54 (57 + never) (spread (833 * m.bending * m.eta) q ll) (100000000000 * (214 - m.stress)))
    (cond (ltb kind 8) (by 56 59 (spread (29 * m.bending) q ll) 5000000000) (by 55 (58 + never) (spread (25 * m.bending * m.eta) q ll) (2000000000 * (197 - m.stress))))

-- rule 6
unfoldable pub member_third : ℕ → Member → MemberWork → Told
member_third kind m w =
    let l = m.span.0 in
    let q = w.line in
    let by : (t n a : ℕ) → Told = λ t n a. ruled (both t 0) 0 2 (verdict_line w.verdict.rule w.verdict.required) n a 0 w.shear shear_area.high m.area.0 no_more in
    cond (ltb kind 6) (by 62 (spread (9 * m.shear * m.eta) q l) 2000000000)
    (cond (ltb kind 8) (by 63 (spread (9 * m.shear) q l) 20000000) (by 64 (spread (7 * m.shear) q l) 12500000))

-- ---- a record

-- the given registers and the sections
pub record Sections : Type 0 where
  pub given : List ℕ
  pub head : Told
  pub one : Told
  pub two : Told
  pub three : Told

pub record Shows (t : Sections) (w : Work) : Type 0 where
  pub given : w.given ≡ t.given
  pub head : Tells t.head w.head
  pub one : Tells t.one w.one
  pub two : Tells t.two w.two
  pub three : Tells t.three w.three

-- no line
abbrev pub nothing : Told
nothing = record { lines = replicate 9 0; own = replicate 32 0 }

unfoldable pub plate_trail : Header → (kind id : ℕ) → Plate → PlateWork → Sections
plate_trail h kind id p w = record {
  given = plate_given h kind id p w;
  head = head_of kind h.draught.0 h.wave.0 h.two_runs p.z.0 p.tank_top.0 p.cargo p.ballast;
  one = plate_first h kind p w;
  two = plate_second kind p w;
  three = plate_third h kind p w;
}

unfoldable pub member_trail : Header → (kind id : ℕ) → Member → MemberWork → Sections
member_trail h kind id m w = record {
  given = member_given h kind id m w;
  head = head_of kind h.draught.0 h.wave.0 h.two_runs m.z.0 0 0 false;
  one = member_first h kind m w;
  two = member_second kind m w;
  three = member_third kind m w;
}

-- a refusal alone
abbrev pub refusal : (number place : ℕ) → Sections
refusal number place = record {
  given = 0 ∷ 0 ∷ 0 ∷ 0 ∷ 0 ∷ 0 ∷ 0 ∷ 0
      ∷ 0 ∷ 0 ∷ 0 ∷ 0 ∷ 0 ∷ 0 ∷ 0 ∷ 0
      ∷ 0 ∷ 0 ∷ 0 ∷ 0 ∷ 0 ∷ 0 ∷ number ∷ 0
      ∷ 0 ∷ 0 ∷ 0 ∷ 0 ∷ 0 ∷ place ∷ 0 ∷ 0 ∷ [];
  head = record { lines = 91 ∷ 0 ∷ 0 ∷ 0 ∷ 0 ∷ 0 ∷ 0 ∷ 0 ∷ 0 ∷ []; own = replicate 32 0 };
  one = nothing;
  two = nothing;
  three = nothing;
}

-- the sections, or the refusal
abbrev pub trail_by : Answer Sections → Sections
trail_by (isGiven t) = t
trail_by (refused number place) = refusal number place

unfoldable pub plate_explained : Header → (kind id : ℕ) → Plate → Sections
plate_explained h kind id p = trail_by (judged_by h (of_plate kind id p) (plate_trail h kind id p (plateWork h kind p)))

unfoldable pub member_explained : Header → (kind id : ℕ) → Member → Sections
member_explained h kind id m = trail_by (judged_by h (of_member kind id m) (member_trail h kind id m (memberWork h kind m)))

abbrev pub body_explained : Header → (kind id : ℕ) → Body → Sections
body_explained h kind id (isPlate p) = plate_explained h kind id p
body_explained h kind id (isMember m) = member_explained h kind id m

-- the trail of a record, or why it or its header is turned away
abbrev pub explained : Header → Record → Sections
explained h r = body_explained h r.kind r.id r.body

-- ---- its text

abbrev pub section_pieces : (given : List ℕ) → Told → List (List ℕ)
section_pieces given t = line_pieces given t.own t.lines

-- those of a whole work
abbrev pub work_pieces : Work → List (List ℕ)
work_pieces w =
    line_pieces w.given w.head.own w.head.lines ++ line_pieces w.given w.one.own w.one.lines ++ line_pieces w.given w.two.own w.two.lines
    ++ line_pieces w.given w.three.own w.three.lines

abbrev pub all_pieces : Sections → List (List ℕ)
all_pieces t = section_pieces t.given t.head ++ section_pieces t.given t.one ++ section_pieces t.given t.two ++ section_pieces t.given t.three

abbrev pub sections_text : Sections → List ℕ
sections_text t = text_of (all_pieces t)

abbrev pub trail_text : Header → Record → List ℕ
trail_text h r = sections_text (explained h r)

-- room for four sections of nine templates
abbrev pub room : ℕ
room = 25344

-- the text stands in front, and every byte past it is 0
pub record Written (text : List ℕ) (t : Trail) : Type 0 where
  pub len : t.len ≡ length text
  pub bytes : t.bytes ≡ text ++ replicate (room - length text) 0

-- ---- its meaning

-- every line of the sections holds, of the rules at hand
pub record AllHold (loads : List Named) (verdict : Verdict) (first second third : Rule) (t : Sections) : Type 0 where
  pub head : Holds t.head.lines (record { rule = first; loads = loads; verdict = verdict }) (record { given = t.given; own = t.head.own })
  pub one : Holds t.one.lines (record { rule = first; loads = loads; verdict = verdict }) (record { given = t.given; own = t.one.own })
  pub two : Holds t.two.lines (record { rule = second; loads = loads; verdict = verdict }) (record { given = t.given; own = t.two.own })
  pub three : Holds t.three.lines (record { rule = third; loads = loads; verdict = verdict }) (record { given = t.given; own = t.three.own })

-- of the rules, the loads and the verdict of this record
abbrev pub BodyHolds : Header → (kind : ℕ) → Body → Sections → Type 0
BodyHolds h kind (isPlate p) t = AllHold (plate_loads h kind p) (plate_verdict h kind p) (asked1 h kind p) (asked2 h kind p) (asked3 h kind p) t
BodyHolds h kind (isMember m) t = AllHold (member_named h kind m ∷ []) (member_verdict h kind m) (web_rule h kind m) (bending_rule h kind m) (shear_rule h kind m) t

-- the trail's text, and of a sound record each of its lines holds
pub record Trails (h : Header) (r : Record) (t : Trail) : Type 0 where
  pub written : Written (trail_text h r) t
  pub holds : Sound h r → BodyHolds h r.kind r.body (explained h r)

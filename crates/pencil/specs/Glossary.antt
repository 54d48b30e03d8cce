-- The dictionary of a trail: each phrase with its words, in which marks name registers, beside what it says of them and of the member. The words of a formula
-- and the number that it stands for are made of the same parts. `-` is cut off at 0.
use Rattle.std.specs.Prelude.{ℕ, ◌+◌, ◌-◌, ◌*◌, ◌^◌, ◌≤◌, ◌<◌, max, ◌≡◌, Bool, true, false, ◌&&◌, cond, List, [], ◌∷◌, ◌++◌, leb, eqb}
use Prim.Native.String.{String}
use Rattle.root.specs.Root.{IsRoot}
use Rattle.gauge.specs.Least.{IsLeast}
use Rattle.loads.specs.Sources.{Named, Among, Decides}
use Rattle.decimal.specs.Decimal.{decimal_of}
use Rattle.wording.specs.Words.{utf8, bytes}
use Rattle.verdict.specs.declared.Verdict.{Verdict}
use Rattle.verdict.specs.Verdict.{Rule}
use Rattle.pencil.specs.Registers.{Registers, at}
use Rattle.pencil.specs.Registers as reg

-- what is so of the member: the rule at hand as it has to answer to it, the loads that bear on it, and its verdict
pub record Facts : Type 0 where
  pub rule : Rule
  pub loads : List Named
  pub verdict : Verdict

-- ---- numbers in words

-- # a number, $ a thickness, % a modulus, & an area
abbrev pub marked : (mark reg : ℕ) → List ℕ
marked mark k = mark ∷ (64 + k) ∷ []

abbrev pub number : ℕ → List ℕ
number = marked 35

-- a quotient that leaves something is one more when it is rounded up
abbrev pub rounded_up : (quotient remainder : ℕ) → ℕ
rounded_up q r = cond (eqb r 0) q (q + 1)

-- p over a is q, and r remains
abbrev pub Divides : (p a q r : ℕ) → Type 0
Divides p a q r = (p ≡ a * q + r) × (r < a)

-- ---- formulas

pub record Term : Type 0 where
  pub words : List ℕ
  pub value : Registers → ℕ

-- 9
abbrev pub num : ℕ → Term
num n = record { words = decimal_of n; value = λ r. n }

-- digits in superscript
abbrev raised : List ℕ → List ℕ
raised [] = []
raised (d ∷ ds) = utf8 (cond (eqb d 49) 185 (cond (eqb d 50) 178 (cond (eqb d 51) 179 (8256 + d)))) ++ raised ds

-- 10⁹
abbrev pub tens : ℕ → Term
tens n = record { words = bytes "10" ++ raised (decimal_of n); value = λ r. 10 ^ n }

-- a letter, and the register of its number
pub record Letter : Type 0 where
  pub name : String
  pub reg : ℕ

abbrev pub of : Letter → Term
of l = record { words = bytes l.name; value = λ r. at r l.reg }

-- LK
abbrev pub times : Term → Term → Term
times a b = record { words = a.words ++ b.words; value = λ r. a.value r * b.value r }

-- 5·10⁹
abbrev pub dotted : Term → Term → Term
dotted a b = record { words = a.words ++ bytes "·" ++ b.words; value = λ r. a.value r * b.value r }

-- L²
abbrev pub squared : Term → Term
squared a = record { words = a.words ++ bytes "²"; value = λ r. a.value r * a.value r }

-- (D0 − z)
abbrev pub less : Term → Term → Term
less a b = record { words = bytes "(" ++ a.words ++ bytes " − " ++ b.words ++ bytes ")"; value = λ r. a.value r - b.value r }

-- (b1² + b2²)
abbrev pub sum : Term → Term → Term
sum a b = record { words = bytes "(" ++ a.words ++ bytes " + " ++ b.words ++ bytes ")"; value = λ r. a.value r + b.value r }

-- (zL − z + 100)
abbrev pub between : Term → Term → Term → Term
between a b c = record { words = bytes "(" ++ a.words ++ bytes " − " ++ b.words ++ bytes " + " ++ c.words ++ bytes ")"; value = λ r. a.value r + c.value r - b.value r }

-- ---- rules in letters: what is asked of a scantling, and its right side once it is divided

pub record Formula : Type 0 where
  pub words : List ℕ
  pub side : List ℕ
  -- the right side is p over a
  pub p : Term
  pub a : Term
  pub asks : Registers → ℕ → Bool
  -- X = step·T − short
  pub step : ℕ
  pub short : Registers → ℕ

-- what is taken off 100T: − 11000 − 36S, and added to the root: + 11000 + 36S
pub record Off : Type 0 where
  pub taken : List ℕ
  pub added : List ℕ
  pub value : Registers → ℕ

abbrev pub off_one : Term → Off
off_one a = record { taken = bytes " − " ++ a.words; added = bytes " + " ++ a.words; value = a.value }

abbrev pub off_two : Term → Term → Off
off_two a b = record { taken = bytes " − " ++ a.words ++ bytes " − " ++ b.words; added = bytes " + " ++ a.words ++ bytes " + " ++ b.words; value = λ r. a.value r + b.value r }

-- X = 100T − 11000 − 36S ≥ 0, 1000X² ≥ 9L²K; its right side X² ≥ 9L²K/1000
abbrev pub excess : (step : ℕ) (off : Off) (a p : Term) → Formula
excess step off a p = record {
  words = bytes "X = " ++ decimal_of step ++ bytes "T" ++ off.taken ++ bytes " ≥ 0, " ++ a.words ++ bytes "X² ≥ " ++ p.words;
  side = bytes "X² ≥ " ++ p.words ++ bytes "/" ++ a.words;
  p = p;
  a = a;
  asks = λ r x. leb (off.value r) (step * x) && leb (p.value r) (a.value r * ((step * x - off.value r) * (step * x - off.value r)));
  step = step;
  short = off.value;
}

-- no words, 1
abbrev pub one : Term
one = record { words = []; value = λ r. 1 }

-- a·T² ≥ p, in whatever order the parts of a stand around T²
abbrev thick : (words side : List ℕ) (a p : Term) → Formula
thick words side a p = record {
  words = words ++ bytes " ≥ " ++ p.words;
  side = bytes "T² ≥ " ++ p.words ++ bytes "/" ++ side;
  p = p;
  a = a;
  asks = λ r x. leb (p.value r) (a.value r * (x * x));
  step = 1;
  short = λ r. 0;
}

-- 100000000T² ≥ 1521S²R; its right side over 100000000
abbrev pub thick_front : (a p : Term) → Formula
thick_front a p = thick (a.words ++ bytes "T²") a.words a p

-- T²K2²(210000 − R) ≥ 504100000S²K; over (K2²(210000 − R))
abbrev pub thick_behind : (a p : Term) → Formula
thick_behind a p = thick (bytes "T²" ++ a.words) (bytes "(" ++ a.words ++ bytes ")") a p

-- 25T²K2² ≥ 1156S²R; over (25K2²)
abbrev pub thick_around : (a b p : Term) → Formula
thick_around a b p = thick (a.words ++ bytes "T²" ++ b.words) (bytes "(" ++ a.words ++ b.words ++ bytes ")") (times a b) p

-- a·x ≥ p
abbrev floor : (words side : List ℕ) (a p : Term) → Formula
floor words side a p = record {
  words = words ++ bytes " ≥ " ++ p.words;
  side = side;
  p = p;
  a = a;
  asks = λ r x. leb (p.value r) (a.value r * x);
  step = 1;
  short = λ r. 0;
}

-- 5·10⁹W ≥ 29βbql²; W ≥ 29βbql²/(5·10⁹)
abbrev pub floor_over : (x : String) (a p : Term) → Formula
floor_over x a p = floor (a.words ++ bytes x) (bytes x ++ bytes " ≥ " ++ p.words ++ bytes "/(" ++ a.words ++ bytes ")") a p

-- 12500000A ≥ 7βsql; A ≥ 7βsql/12500000
abbrev pub floor_plain : (x : String) (a p : Term) → Formula
floor_plain x a p = floor (a.words ++ bytes x) (bytes x ++ bytes " ≥ " ++ p.words ++ bytes "/" ++ a.words) a p

-- 10¹¹W(214 − σ1) ≥ 833βbηql²; W ≥ 833βbηql²/(10¹¹(214 − σ1))
abbrev pub floor_around : (x : String) (a b p : Term) → Formula
floor_around x a b p = floor (a.words ++ bytes x ++ b.words) (bytes x ++ bytes " ≥ " ++ p.words ++ bytes "/(" ++ a.words ++ b.words ++ bytes ")") (times a b) p

-- ---- phrases

pub record Phrase : Type 1 where
  pub words : List ℕ
  pub says : Facts → Registers → Type 0

abbrev pub words_of : List Phrase → List ℕ
words_of [] = []
words_of (p ∷ ps) = p.words ++ words_of ps

-- all of them say what is so
abbrev pub says_of : List Phrase → Facts → Registers → Type 0
says_of [] f r = Unit {0}
says_of (p ∷ ps) f r = p.says f r × says_of ps f r

-- words that say nothing of the registers
abbrev pub plain : String → Phrase
plain s = record { words = bytes s; says = λ f r. Unit {0} }

-- a number as it is
abbrev pub shown : ℕ → Phrase
shown k = record { words = number k; says = λ f r. Unit {0} }

-- a letter's number
abbrev pub given : Letter → Phrase
given l = record { words = bytes l.name ++ bytes " " ++ number l.reg; says = λ f r. Unit {0} }

-- kind 1
abbrev pub kind_is : ℕ → Phrase
kind_is k = record { words = bytes "kind " ++ decimal_of k; says = λ f r. at r reg.kind ≡ k }

-- ZB stands for ZDB, which a sheet of version 1 does not have
abbrev pub stands_in : Phrase
stands_in = record { words = bytes "ZB stands for ZDB, which a sheet of version 1 does not have"; says = λ f r. at r reg.version ≡ 1 }

-- ---- of the loads

-- source 0, ..: a load that bears on the member, whose pressure is the number at the end of the paragraph
abbrev pub sourced : (s k : ℕ) → Phrase
sourced s k = record { words = bytes "source " ++ decimal_of s; says = λ f r. Among (record { pressure = at r k; source = s }) f.loads }

-- a formula, and behind these words its number
abbrev pub value_is : (t : Term) (between : List ℕ) (k : ℕ) → Phrase
value_is t between k = record { words = t.words ++ between ++ number k; says = λ f r. at r k ≡ t.value r }

-- 98100(D0 − z) + 50031H, and behind these words 24525000 + 3001860 = 27526860
abbrev pub sum_is : (a b : Term) (between : List ℕ) (x y z : ℕ) → Phrase
sum_is a b between x y z = record {
  words = a.words ++ bytes " + " ++ b.words ++ between ++ number x ++ bytes " + " ++ number y ++ bytes " = " ++ number z;
  says = λ f r. (at r x ≡ a.value r) × (at r y ≡ b.value r) × (at r z ≡ a.value r + b.value r);
}

-- 14158283 + 3001860 = 17160143, the second being 50031H
abbrev pub added : (b : Term) (x y z : ℕ) → Phrase
added b x y z = record { words = number x ++ bytes " + " ++ number y ++ bytes " = " ++ number z; says = λ f r. (at r y ≡ b.value r) × (at r z ≡ at r x + at r y) }

-- max(50150H, 3000000), and behind these phrases max(3009000, 3000000) = 3009000
abbrev pub max_is : (a b : Term) (between : List Phrase) (x y : ℕ) → Phrase
max_is a b between x y = record {
  words = bytes "max(" ++ a.words ++ bytes ", " ++ b.words ++ bytes ")" ++ words_of between ++ bytes "max(" ++ number x ++ bytes ", " ++ b.words ++ bytes ") = " ++ number y;
  says = λ f r. (at r x ≡ a.value r) × (at r y ≡ max (a.value r) (b.value r)) × says_of between f r;
}

-- z 251 cm is above D0 250 cm
abbrev pub above_is : (x y : Letter) → Phrase
above_is x y = record { words = bytes x.name ++ bytes " " ++ number x.reg ++ bytes " cm is above " ++ bytes y.name ++ bytes " " ++ number y.reg ++ bytes " cm"; says = λ f r. at r y.reg < at r x.reg }

-- as H is not 120: 3009000 + 250000 = 3259000
abbrev pub calm_is : (x n z : ℕ) → Phrase
calm_is x n z = record {
  words = bytes "as H is not 120: " ++ number x ++ bytes " + " ++ decimal_of n ++ bytes " = " ++ number z;
  says = λ f r. (at r reg.wave ≡ 120 → ⊥) × (at r z ≡ at r x + n);
}

-- 3400H, as H is 120: 6018000 + 408000 = 6426000
abbrev pub storm_is : (t : Term) (x y z : ℕ) → Phrase
storm_is t x y z = record {
  words = t.words ++ bytes ", as H is 120: " ++ number x ++ bytes " + " ++ number y ++ bytes " = " ++ number z;
  says = λ f r. (at r reg.wave ≡ 120) × (at r y ≡ t.value r) × (at r z ≡ at r x + at r y);
}

-- 14715D0 − 50031H, and behind these words 3678750 − 3001860 = 676890
abbrev pub less_is : (a b : Term) (between : List ℕ) (x y z : ℕ) → Phrase
less_is a b between x y z = record {
  words = a.words ++ bytes " − " ++ b.words ++ between ++ number x ++ bytes " − " ++ number y ++ bytes " = " ++ number z;
  says = λ f r. (at r x ≡ a.value r) × (at r y ≡ b.value r) × (at r x ≡ at r y + at r z);
}

-- the same where the second is the greater: 1471500 < 3001860, so 0
abbrev pub less_none : (a b : Term) (between : List ℕ) (x y z : ℕ) → Phrase
less_none a b between x y z = record {
  words = a.words ++ bytes " − " ++ b.words ++ between ++ number x ++ bytes " < " ++ number y ++ bytes ", so 0";
  says = λ f r. (at r x ≡ a.value r) × (at r y ≡ b.value r) × (at r x < at r y) × (at r z ≡ 0);
}

-- pB − pM = 127530000 − 676890 = 126853110
abbrev pub net_is : (x y z : ℕ) → Phrase
net_is x y z = record { words = bytes " = " ++ number x ++ bytes " − " ++ number y ++ bytes " = " ++ number z; says = λ f r. at r x ≡ at r y + at r z }

-- pB − pM: 9810000 < 14715000, so 0
abbrev pub net_none : (x y z : ℕ) → Phrase
net_none x y z = record { words = bytes ": " ++ number x ++ bytes " < " ++ number y ++ bytes ", so 0"; says = λ f r. (at r x < at r y) × (at r z ≡ 0) }

-- 30000 Pa, times 1000: 30000000
abbrev pub thousandfold : (x y : ℕ) → Phrase
thousandfold x y = record { words = number x ++ bytes " Pa, times 1000: " ++ number y; says = λ f r. at r y ≡ at r x * 1000 }

-- 564075·251/10 = 14158282, remainder 5, and behind these words rounded up: 14158283
abbrev pub tenth_is : (n x q l : ℕ) (between : List ℕ) (up : ℕ) → Phrase
tenth_is n x q l between up = record {
  words = decimal_of n ++ bytes "·" ++ number x ++ bytes "/10 = " ++ number q ++ bytes ", remainder " ++ number l ++ between ++ bytes "rounded up: " ++ number up;
  says = λ f r. Divides (n * at r x) 10 (at r q) (at r l) × (at r up ≡ rounded_up (at r q) (at r l));
}

-- decides: source 0, P 27526860
abbrev pub decides : Phrase
decides = record {
  words = bytes "decides: source " ++ number reg.source ++ bytes ", P " ++ number reg.pressure;
  says = λ f r. Decides (record { pressure = at r reg.pressure; source = at r reg.source }) f.loads;
}

-- ---- of a rule, up to its right side

-- rule 1
abbrev pub rule_is : ℕ → Phrase
rule_is k = record { words = bytes "rule " ++ decimal_of k; says = λ f r. f.rule.number ≡ k }

-- a rule in letters: on the gauge it asks what the member has to answer to
abbrev pub stated : Formula → Phrase
stated u = record {
  words = u.words;
  says = λ f r. ((x : ℕ) → 1 ≤ x → x ≤ f.rule.top → u.asks r x ≡ f.rule.asks x) × (at r reg.step ≡ u.step) × (at r reg.short ≡ u.short r);
}

-- a rule in letters, where its difference leaves nothing to ask: it is said behind it that no number meets the rule
abbrev pub lettered : Formula → Phrase
lettered u = record { words = u.words; says = λ f r. Unit {0} }

-- its right side: X² ≥ 9L²K/1000 = 576000000, remainder 0
abbrev pub sided : Formula → Phrase
sided u = record {
  words = u.side ++ bytes " = " ++ number reg.quotient ++ bytes ", remainder " ++ number reg.remainder;
  says = λ f r. Divides (u.p.value r) (u.a.value r) (at r reg.quotient) (at r reg.remainder);
}

-- L 8000 cm, under 12000
abbrev pub under_is : Letter → ℕ → Phrase
under_is l n = record { words = bytes l.name ++ bytes " " ++ number l.reg ++ bytes " cm, under " ++ decimal_of n; says = λ f r. at r l.reg < n }

abbrev pub not_under : Letter → ℕ → Phrase
not_under l n = record { words = bytes l.name ++ bytes " " ++ number l.reg ++ bytes " cm, not under " ++ decimal_of n; says = λ f r. n ≤ at r l.reg }

-- R = 1000000M/ZB = 100000, remainder 0; rounded up: 100000
abbrev pub ratio_up : (name : String) (p a : Term) (k : ℕ) → Phrase
ratio_up name p a k = record {
  words = bytes name ++ bytes " = " ++ p.words ++ bytes "/" ++ a.words ++ bytes " = " ++ number reg.ratio ++ bytes ", remainder " ++ number reg.ratio_left ++ bytes "; rounded up: " ++ number k;
  says = λ f r. Divides (p.value r) (a.value r) (at r reg.ratio) (at r reg.ratio_left) × (at r k ≡ rounded_up (at r reg.ratio) (at r reg.ratio_left));
}

-- K2 = 1000(b1² + b2²)/b1² = 1040, remainder 0; rounded down: 1040
abbrev pub side_down : (p a : Term) → Phrase
side_down p a = record {
  words = bytes "K2 = " ++ p.words ++ bytes "/" ++ a.words ++ bytes " = " ++ number reg.side ++ bytes ", remainder " ++ number reg.side_left ++ bytes "; rounded down: " ++ number reg.k2;
  says = λ f r. Divides (p.value r) (a.value r) (at r reg.side) (at r reg.side_left) × (at r reg.k2 ≡ at r reg.side);
}

-- the same with; at most 26000
abbrev pub side_most : (p a : Term) (most : ℕ) → Phrase
side_most p a most = record {
  words = bytes "K2 = " ++ p.words ++ bytes "/" ++ a.words ++ bytes " = " ++ number reg.side ++ bytes ", remainder " ++ number reg.side_left ++ bytes "; at most " ++ decimal_of most;
  says = λ f r. Divides (p.value r) (a.value r) (at r reg.side) (at r reg.side_left) × (most < at r reg.side) × (at r reg.k2 ≡ most);
}

-- 6084KR = 608400000000 ≤ 625000000000
abbrev pub fork_under : (t : Term) (n : ℕ) → Phrase
fork_under t n = record { words = t.words ++ bytes " = " ++ number reg.fork ++ bytes " ≤ " ++ decimal_of n; says = λ f r. (at r reg.fork ≡ t.value r) × (at r reg.fork ≤ n) }

abbrev pub fork_over : (t : Term) (n : ℕ) → Phrase
fork_over t n = record { words = t.words ++ bytes " = " ++ number reg.fork ++ bytes " > " ++ decimal_of n; says = λ f r. (at r reg.fork ≡ t.value r) × (n < at r reg.fork) }

-- ---- the right side rounded, and the root

-- X² ≥ 576000000; root, rounded down: 24000, of the right side before it rounded up
abbrev pub rooted : (x : String) → Phrase
rooted x = record {
  words = bytes "rounded up: " ++ bytes x ++ bytes " ≥ " ++ number reg.right ++ bytes "; root, rounded down: " ++ number reg.root;
  says = λ f r. (at r reg.right ≡ rounded_up (at r reg.quotient) (at r reg.remainder)) × IsRoot (at r reg.right) (at r reg.root);
}

-- X² ≥ 15210K = 15210000; root, rounded down: 3900
abbrev pub rooted_at : (p : Term) → Phrase
rooted_at p = record {
  words = bytes "X² ≥ " ++ p.words ++ bytes " = " ++ number reg.right ++ bytes "; root, rounded down: " ++ number reg.root;
  says = λ f r. (at r reg.right ≡ p.value r) × IsRoot (at r reg.right) (at r reg.root);
}

-- T ≥ (24000 + 11000 + 36S)/100, and behind these phrases 530, remainder 0
abbrev pub thick_over : (step : ℕ) (off : Off) (between : List Phrase) → Phrase
thick_over step off between = record {
  words = bytes "T ≥ (" ++ number reg.root ++ off.added ++ bytes ")/" ++ decimal_of step ++ words_of between ++ bytes ": " ++ number reg.over ++ bytes ", remainder " ++ number reg.over_left;
  says = λ f r. Divides (at r reg.root + off.value r) step (at r reg.over) (at r reg.over_left) × says_of between f r;
}

-- , 36S = 18000
abbrev pub per_is : Term → Phrase
per_is t = record { words = bytes ", " ++ t.words ++ bytes " = " ++ number reg.per; says = λ f r. at r reg.per ≡ t.value r }

-- rounded up: T 530
abbrev pub thick_up : Phrase
thick_up = record { words = bytes "rounded up: T " ++ number reg.first; says = λ f r. at r reg.first ≡ rounded_up (at r reg.over) (at r reg.over_left) }

-- rounded up: W ≥ 567
abbrev pub floor_up : (x : String) → Phrase
floor_up x = record { words = bytes "rounded up: " ++ bytes x ++ bytes " ≥ " ++ number reg.right; says = λ f r. at r reg.right ≡ rounded_up (at r reg.quotient) (at r reg.remainder) }

-- ---- where nothing meets the rule

-- no number of the gauge meets it
abbrev pub None : Facts → Type 0
None f = (x : ℕ) → 1 ≤ x → x ≤ f.rule.top → f.rule.asks x ≡ false

-- at T 4000, the last: R ≤ 25T²K2²/(1156S²) = 100, remainder 0; behind these words R 101 is above it, so no T of the gauge meets the rule
abbrev pub limit_is : (a b panel : Term) (between : List ℕ) → Phrase
limit_is a b panel between = record {
  words = bytes "at T 4000, the last: R ≤ " ++ a.words ++ bytes "T²" ++ b.words ++ bytes "/(" ++ panel.words ++ bytes ") = " ++ number reg.limit ++ bytes ", remainder " ++ number reg.limit_left ++ between ++ bytes "R " ++ number reg.stress ++ bytes " is above it, so no T of the gauge meets the rule";
  says = λ f r. (f.rule.top ≡ 4000) × Divides (a.value r * b.value r * (4000 * 4000)) (panel.value r) (at r reg.limit) (at r reg.limit_left) × (at r reg.limit < at r reg.stress) × None f;
}

-- R 210000 is not below 210000, so no T meets the rule
abbrev pub none_left : (l : Letter) (n : ℕ) (x : String) → Phrase
none_left l n x = record {
  words = bytes l.name ++ bytes " " ++ number l.reg ++ bytes " is not below " ++ decimal_of n ++ bytes ", so no " ++ bytes x ++ bytes " meets the rule";
  says = λ f r. (n ≤ at r l.reg) × None f;
}

-- ---- the last step

-- T 530, X 24000: X² = 576000000
abbrev square_x : (t x s : ℕ) → List ℕ
square_x t x s = bytes "T " ++ number t ++ bytes ", X " ++ number x ++ bytes ": X² = " ++ number s

-- T 314: T² = 98596
abbrev square_t : (t s : ℕ) → List ℕ
square_t t s = bytes "T " ++ number t ++ bytes ": T² = " ++ number s

abbrev SquaresX : Registers → (t x s : ℕ) → Type 0
SquaresX r t x s = (at r x ≡ at r reg.step * at r t - at r reg.short) × (at r s ≡ at r x * at r x)

-- .. ≥ 576000000, met
abbrev pub met_x : (t x s : ℕ) → Phrase
met_x t x s = record {
  words = square_x t x s ++ bytes " ≥ " ++ number reg.right ++ bytes ", met";
  says = λ f r. SquaresX r t x s × (at r reg.right ≤ at r s) × (f.rule.asks (at r t) ≡ true);
}

-- .. < 576000000, not met
abbrev pub not_met_x : (t x s : ℕ) → Phrase
not_met_x t x s = record {
  words = square_x t x s ++ bytes " < " ++ number reg.right ++ bytes ", not met";
  says = λ f r. SquaresX r t x s × (at r s < at r reg.right) × (f.rule.asks (at r t) ≡ false);
}

abbrev pub met_t : (t s : ℕ) → Phrase
met_t t s = record {
  words = square_t t s ++ bytes " ≥ " ++ number reg.right ++ bytes ", met";
  says = λ f r. (at r s ≡ at r t * at r t) × (at r reg.right ≤ at r s) × (f.rule.asks (at r t) ≡ true);
}

abbrev pub not_met_t : (t s : ℕ) → Phrase
not_met_t t s = record {
  words = square_t t s ++ bytes " < " ++ number reg.right ++ bytes ", not met";
  says = λ f r. (at r s ≡ at r t * at r t) × (at r s < at r reg.right) × (f.rule.asks (at r t) ≡ false);
}

-- one less, and one more, than the first number
abbrev pub one_less : Phrase
one_less = record { words = bytes "one less: "; says = λ f r. at r reg.first ≡ at r reg.other + 1 }

abbrev pub one_more : Phrase
one_more = record { words = bytes "one more: "; says = λ f r. at r reg.other ≡ at r reg.first + 1 }

-- one more is past the gauge's last, 4000
abbrev pub past_next : Phrase
past_next = record { words = bytes "one more is past the gauge's last, " ++ number reg.top; says = λ f r. (at r reg.top ≡ f.rule.top) × (f.rule.top < at r reg.first + 1) }

-- T 1 meets the rule, and the gauge begins there
abbrev pub one_meets : (x : String) → Phrase
one_meets x = record { words = bytes x ++ bytes " 1 meets the rule, and the gauge begins there"; says = λ f r. f.rule.asks 1 ≡ true }

-- T 4001 is past the gauge's last, 4000
abbrev pub past_last : (x : String) → Phrase
past_last x = record {
  words = bytes x ++ bytes " " ++ number reg.first ++ bytes " is past the gauge's last, " ++ number reg.top;
  says = λ f r. (at r reg.top ≡ f.rule.top) × (f.rule.top < at r reg.first);
}

-- ---- the result and the verdict

abbrev pub least_is : (mark : ℕ) → Phrase
least_is mark = record { words = bytes "least " ++ marked mark reg.least; says = λ f r. IsLeast f.rule.asks 1 (f.rule.top + 1) (at r reg.least) }

abbrev pub least_none : Phrase
least_none = record { words = bytes "no number of the gauge meets it"; says = λ f r. None f }

abbrev pub has_met : (mark : ℕ) → Phrase
has_met mark = record { words = bytes "has " ++ marked mark reg.has ++ bytes ": met"; says = λ f r. (at r reg.has ≡ f.rule.has) × (f.rule.asks (at r reg.has) ≡ true) }

abbrev pub has_fails : (mark : ℕ) → Phrase
has_fails mark = record { words = bytes "has " ++ marked mark reg.has ++ bytes ": fails"; says = λ f r. (at r reg.has ≡ f.rule.has) × (f.rule.asks (at r reg.has) ≡ false) }

abbrev pub margin_of : Phrase
margin_of = record { words = bytes "margin " ++ number reg.margin; says = λ f r. at r reg.has ≡ at r reg.least + at r reg.margin }

abbrev pub short_by : Phrase
short_by = record { words = bytes "short by " ++ number reg.margin; says = λ f r. at r reg.least ≡ at r reg.has + at r reg.margin }

abbrev pub passes : Phrase
passes = record { words = bytes "passes"; says = λ f r. f.verdict.rule ≡ 0 }

abbrev pub fails_rule : Phrase
fails_rule = record { words = bytes "fails rule " ++ number reg.rule; says = λ f r. (f.verdict.rule ≡ at r reg.rule) × (1 ≤ at r reg.rule) }

-- in mm for rules 1 to 4, in cm³ for rule 5, in cm² for rule 6
abbrev pub unit_of : ℕ → ℕ
unit_of rule = cond (eqb rule 5) 37 (cond (eqb rule 6) 38 36)

abbrev pub requires : (mark : ℕ) → Phrase
requires mark = record { words = bytes "required " ++ marked mark reg.required; says = λ f r. (f.verdict.required ≡ at r reg.required) × (1 ≤ at r reg.required) × (unit_of (at r reg.rule) ≡ mark) }

abbrev pub requires_none : Phrase
requires_none = record { words = bytes "no number of the gauge meets it"; says = λ f r. f.verdict.required ≡ 0 }

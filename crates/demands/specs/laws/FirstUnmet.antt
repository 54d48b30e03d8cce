-- The rule that a verdict names, by the rules that its record meets: none exactly where it meets each, and else the first that it does not.
-- Assumes nothing.
use Rattle.std.specs.Prelude.{ℕ, ◌+◌, ◌≤◌, ◌<◌, ◌≡◌, refl, Bool, true, false, cond, List, [], ◌∷◌, get_or, ltb}
use Rattle.std.proofs.Common.{sym, ap, subst, ◌∙◌, arith}
use Rattle.std.proofs.Math.Decide.{dec_lt}
use Rattle.truth.specs.laws.Tests.{clash}
use Rattle.layout.specs.Layout.{unpack}
use Rattle.sheet.specs.declared.Header.{Header}
use Rattle.sheet.specs.Exactly.{Exactly}
use Rattle.sheet.specs.Lines.{plate_widths, member_widths}
use Rattle.sheet.specs.Record.{plate_at, member_at, plate_record, member_record}
use Rattle.verdict.specs.Verdict.{Rule, pass, failing, verdict_of, met_in}
use Rattle.plating.specs.Rules.{asked1, asked2, asked3}
use Rattle.framing.specs.Rules.{web_rule, bending_rule, shear_rule}
use Rattle.hull.specs.Hull.{rules_of, verdict}
use Rattle.demands.specs.Table.{number_of, kind_of}
use Rattle.demands.specs.Raise.{the_header, the_record, meets_rule}
use Rattle.demands.specs.Demands.{first_rule, AnswersTo, FirstUnmet}

-- ---- of the rules n, n + 1 and n + 2, by which of them are met

-- the first that is not; 0 where all are
abbrev first_of : (n : ℕ) → (ℕ → Bool) → ℕ
first_of n met = cond (met n) (cond (met (n + 1)) (cond (met (n + 2)) 0 (n + 2)) (n + 1)) n

module _ (n : ℕ) (met : ℕ → Bool) where
  abbrev Own : ℕ → Type 0
  Own k = (n ≤ k) × (k ≤ n + 2)

  record First (k : ℕ) : Type 0 where
    pub own : Own k
    pub unmet : met k ≡ false
    pub earlier : (j : ℕ) → Own j → j < k → met j ≡ true

  data Found : ℕ → Type 0 where
    none : ((k : ℕ) → Own k → met k ≡ true) → Found 0
    one : (k : ℕ) → First k → Found k

  found : Found (first_of n met)
  found = go (met n) refl (met (n + 1)) refl (met (n + 2)) refl
    where
      before : (j : ℕ) → Own j → j < n + 2 → met n ≡ true → met (n + 1) ≡ true → met j ≡ true
      before j o l p q = pick (dec_lt j (n + 1))
        where
          pick : Dec (j < n + 1) → met j ≡ true
          pick (yes m) = let e : j ≡ n = omega (arith, o.0) in ap met e ∙ p
          pick (no m) = let e : j ≡ n + 1 = omega arith in ap met e ∙ q

      all : (j : ℕ) → Own j → met n ≡ true → met (n + 1) ≡ true → met (n + 2) ≡ true → met j ≡ true
      all j o p q r = pick (dec_lt j (n + 2))
        where
          pick : Dec (j < n + 2) → met j ≡ true
          pick (yes m) = before j o m p q
          pick (no m) = let e : j ≡ n + 2 = omega (arith, o.1) in ap met e ∙ r

      go : (a : Bool) → met n ≡ a → (b : Bool) → met (n + 1) ≡ b → (c : Bool) → met (n + 2) ≡ c → Found (cond a (cond b (cond c 0 (n + 2)) (n + 1)) n)
      go true p true q true r = none (λ k o. all k o p q r)
      go true p true q false r = one (n + 2) (record { own = (omega arith, omega arith); unmet = r; earlier = λ j o l. before j o l p q })
      go true p false q c r =
          one (n + 1)
          (record {
            own = (omega arith, omega arith);
            unmet = q;
            earlier = λ j o l. let e : j ≡ n = omega (arith, o.0) in ap met e ∙ p;
          })
      go false p b q c r = one n (record { own = (omega arith, omega arith); unmet = p; earlier = λ j o l. absurd (omega (arith, o.0)) })

  passes : 1 ≤ n → Exactly (first_of n met ≡ 0) ((k : ℕ) → Own k → met k ≡ true)
  passes from = (there found, back found)
    where
      there : {m : ℕ} → Found m → m ≡ 0 → (k : ℕ) → Own k → met k ≡ true
      there (none f) e = f
      there (one m w) e = absurd (omega (arith, w.own.0))

      back : {m : ℕ} → Found m → ((k : ℕ) → Own k → met k ≡ true) → m ≡ 0
      back (none f) all = refl
      back (one m w) all = clash (all m w.own) w.unmet

  fails : (k : ℕ) → 1 ≤ k → Exactly (first_of n met ≡ k) (First k)
  fails k from = (there found, back found)
    where
      there : {m : ℕ} → Found m → m ≡ k → First k
      there (none f) e = absurd (omega arith)
      there (one m w) e = subst First e w

      back : {m : ℕ} → Found m → First k → m ≡ k
      back (none f) v = clash (f k v.own) v.unmet
      back (one m w) v = pick (dec_lt m k) (dec_lt k m)
        where
          pick : Dec (m < k) → Dec (k < m) → m ≡ k
          pick (yes l) d = clash (v.earlier m w.own l) w.unmet
          pick (no l) (yes g) = clash (w.earlier k v.own g) v.unmet
          pick (no l) (no g) = omega arith

-- ---- of a record

-- the number of the first of three rules that fails
rule_of : (a b c : Rule)
    → (verdict_of (a ∷ b ∷ c ∷ [])).rule ≡ cond (a.asks a.has) (cond (b.asks b.has) (cond (c.asks c.has) 0 c.number) b.number) a.number
rule_of a b c = go (a.asks a.has) (b.asks b.has) (c.asks c.has)
  where
    go : (x y z : Bool) → (cond x (cond y (cond z pass (failing c)) (failing b)) (failing a)).rule ≡ cond x (cond y (cond z 0 c.number) b.number) a.number
    go true true true = refl
    go true true false = refl
    go true false z = refl
    go false y z = refl

module _ (s : List ℕ) (i : ℕ) where
  -- the verdict names the first of its rules that it does not meet
  rule_first : (verdict (the_header s) (the_record s i)).rule ≡ first_of (first_rule s i) (meets_rule s i)
  rule_first = go (the_header s) (unpack plate_widths (number_of s i)) (unpack member_widths (number_of s i)) (ltb (kind_of s i) 5)
    where
      go : (h : Header) (vs ws : List ℕ) (t : Bool)
          → (verdict h (cond t (plate_record vs) (member_record ws))).rule ≡ first_of (cond t 1 4) (λ k. met_in k (rules_of h (cond t (plate_record vs) (member_record ws))))
      go h vs ws true =
          let kind = get_or vs 0 0 in
          let p = plate_at vs in
          rule_of (asked1 h kind p) (asked2 h kind p) (asked3 h kind p)
      go h vs ws false =
          let kind = get_or ws 0 0 in
          let m = member_at ws in
          rule_of (web_rule h kind m) (bending_rule h kind m) (shear_rule h kind m)

  low : (t : Bool) → 1 ≤ cond t 1 4
  low true = omega arith
  low false = omega arith

  pub rule_passes : Exactly ((verdict (the_header s) (the_record s i)).rule ≡ 0) ((k : ℕ) → AnswersTo s i k → meets_rule s i k ≡ true)
  rule_passes =
      let q = passes (first_rule s i) (meets_rule s i) (low (ltb (kind_of s i) 5)) in (
        λ e k o. q.0 (sym rule_first ∙ e) k (omega (arith, o.0), omega (arith, o.1)),
        λ all. rule_first ∙ q.1 (λ k o. all k (omega (arith, o.0), omega (arith, o.1))),
      )

  pub rule_fails : (k : ℕ) → 1 ≤ k → Exactly ((verdict (the_header s) (the_record s i)).rule ≡ k) (FirstUnmet s i k)
  rule_fails k from =
      let q = fails (first_rule s i) (meets_rule s i) k from in (
        λ e. let w = q.0 (sym rule_first ∙ e) in record { own = w.own; unmet = w.unmet; earlier = λ j o l. w.earlier j o (omega arith) },
        λ w. rule_first ∙ q.1 (record { own = w.own; unmet = w.unmet; earlier = λ j o l. w.earlier j o (omega arith) }),
      )

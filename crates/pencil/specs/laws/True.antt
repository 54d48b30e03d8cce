-- Every line of every trail of every sound record holds.
-- Assumes nothing.
use Rattle.std.specs.Prelude.{ℕ, zero, suc, ◌≤◌, ◌≡◌}
use Rattle.std.proofs.Math.Bool.{false}
use Rattle.std.proofs.Math.Path.{refl}
use Rattle.std.proofs.Common.{sym, ap, subst, arith}
use Rattle.quantity.specs.Range.{steel_factor}
use Rattle.quantity.specs.laws.RangeLaws.{low_high}
use Rattle.loads.specs.laws.SourceLaws.{deciding_decides}
use Rattle.sheet.specs.declared.Header.{Header}
use Rattle.sheet.specs.declared.Record.{Record}
use Rattle.sheet.specs.declared.Plate.{Plate}
use Rattle.sheet.specs.declared.Member.{Member}
use Rattle.sheet.specs.declared.Own.{Own}
use Rattle.sheet.specs.declared.Own.TheVariants.{One, Two}
use Rattle.sheet.specs.declared.Body.{Body}
use Rattle.sheet.specs.declared.Body.TheVariants.{Plate as isPlate, Member as isMember}
use Rattle.sheet.specs.Record.{record_fault, member_fault, of_plate, of_member}
use Rattle.sheet.specs.Versions.{version_of}
use Rattle.sheet.specs.Ranges.{HeaderRanges, PlateRanges, MemberRanges}
use Rattle.sheet.specs.laws.HeaderLaws.{header_ranges, header_version}
use Rattle.sheet.specs.laws.RecordLaws.{plate_ranges, member_ranges, member_allowed}
use Rattle.verdict.specs.Judged.{Sound}
use Rattle.verdict.specs.laws.JudgedLaws.{sound_given}
use Rattle.plating.specs.Rules.{plate_named, asked1}
use Rattle.plating.specs.Work.{work_of as plateWork}
use Rattle.framing.specs.Rules.{member_named, web_rule}
use Rattle.framing.specs.Work.{work_of as memberWork}
use Rattle.pencil.specs.Templates.{templates, says}
use Rattle.pencil.specs.Numbers.{load_numbers}
use Rattle.pencil.specs.Trail.{head_of, plate_trail, member_trail, plate_explained, member_explained, trail_by, explained, BodyHolds}
use Rattle.pencil.specs.laws.Heads.{on_sea, on_inner_lem, on_whole}
use Rattle.pencil.specs.laws.Plates as plates
use Rattle.pencil.specs.laws.Members as members

-- ---- a plate

module _ (h : Header) (id : ℕ) (p : Plate) (hr : HeaderRanges h) (named : 1 ≤ h.version) where
  plate_1 : PlateRanges 1 p → BodyHolds h 1 (isPlate p) (plate_trail h 1 id p (plateWork h 1 p))
  unfolding says templates load_numbers head_of plate_trail
  plate_1 pr =
      let s = on_sea (plates.facts h id p hr named 1 (asked1 h 1 p)) 1 0 0 p.cargo h.draught.0 0 (plate_named h 1 p).source 0 h.wave.0 id 0 p.factor.0 h.length.0 h.moment (plateWork h 1 p).modulus 0 (plate_named h 1 p).pressure 0 (plateWork h 1 p).stress p.spacing.0 0 p.tank_top.0 (plateWork h 1 p).verdict.rule 0 p.b1.0 p.b2.0 p.z.0 (plateWork h 1 p).k2 0 (plateWork h 1 p).verdict.required h.version 0 (deciding_decides _ _) p.ballast refl in
      record {
        head = ((tt, (tt, (tt, (refl, (tt, (tt, (tt, tt))))))), ((tt, tt), (s.0, (s.1, (s.2, (s.3, (s.4, (s.5, (tt, tt)))))))));
        one = plates.first_1 h id p hr named pr;
        two = plates.second_1 h id p hr named pr;
        three = plates.third_1 h id p hr named pr;
      }

  plate_2 : PlateRanges 2 p → BodyHolds h 2 (isPlate p) (plate_trail h 2 id p (plateWork h 2 p))
  unfolding says templates load_numbers head_of plate_trail
  plate_2 pr =
      let s = on_sea (plates.facts h id p hr named 2 (asked1 h 2 p)) 2 0 0 p.cargo h.draught.0 0 (plate_named h 2 p).source 0 h.wave.0 id 0 p.factor.0 h.length.0 h.moment (plateWork h 2 p).modulus 0 (plate_named h 2 p).pressure 0 (plateWork h 2 p).stress p.spacing.0 0 p.tank_top.0 (plateWork h 2 p).verdict.rule 0 p.b1.0 p.b2.0 p.z.0 (plateWork h 2 p).k2 0 (plateWork h 2 p).verdict.required h.version 0 (deciding_decides _ _) p.ballast refl in
      record {
        head = ((tt, (tt, (tt, (refl, (tt, (tt, (tt, tt))))))), ((tt, tt), (s.0, (s.1, (s.2, (s.3, (s.4, (s.5, (tt, tt)))))))));
        one = plates.first_2 h id p hr named pr;
        two = plates.second_2 h id p hr named pr;
        three = plates.third_2 h id p hr named pr;
      }

  plate_3 : PlateRanges 3 p → BodyHolds h 3 (isPlate p) (plate_trail h 3 id p (plateWork h 3 p))
  unfolding says templates load_numbers head_of plate_trail
  plate_3 pr =
      let s = on_inner_lem (plates.facts h id p hr named 3 (asked1 h 3 p)) 3 0 0 p.cargo h.draught.0 0 (plate_named h 3 p).source 0 h.wave.0 id 0 p.factor.0 h.length.0 h.moment (plateWork h 3 p).modulus 0 (plate_named h 3 p).pressure 0 (plateWork h 3 p).stress p.spacing.0 0 p.tank_top.0 (plateWork h 3 p).verdict.rule 0 p.b1.0 p.b2.0 p.z.0 (plateWork h 3 p).k2 0 (plateWork h 3 p).verdict.required h.version 0 (deciding_decides _ _) p.ballast refl in
      record {
        head = ((tt, (tt, (tt, (refl, (tt, (tt, (tt, tt))))))), ((tt, tt), (s.0, (s.1, (s.2, (tt, (tt, (tt, (tt, tt)))))))));
        one = plates.first_3 h id p hr named pr;
        two = plates.second_3 h id p hr named pr;
        three = plates.third_3 h id p hr named pr;
      }

  plate_4 : PlateRanges 4 p → BodyHolds h 4 (isPlate p) (plate_trail h 4 id p (plateWork h 4 p))
  unfolding says templates load_numbers head_of plate_trail
  plate_4 pr =
      let s = on_inner_lem (plates.facts h id p hr named 4 (asked1 h 4 p)) 4 0 0 p.cargo h.draught.0 0 (plate_named h 4 p).source 0 h.wave.0 id 0 p.factor.0 h.length.0 h.moment (plateWork h 4 p).modulus 0 (plate_named h 4 p).pressure 0 (plateWork h 4 p).stress p.spacing.0 0 p.tank_top.0 (plateWork h 4 p).verdict.rule 0 p.b1.0 p.b2.0 p.z.0 (plateWork h 4 p).k2 0 (plateWork h 4 p).verdict.required h.version 0 (deciding_decides _ _) p.ballast refl in
      record {
        head = ((tt, (tt, (tt, (refl, (tt, (tt, (tt, tt))))))), ((tt, tt), (s.0, (s.1, (s.2, (tt, (tt, (tt, (tt, tt)))))))));
        one = plates.first_4 h id p hr named pr;
        two = plates.second_4 h id p hr named pr;
        three = plates.third_4 h id p hr named pr;
      }

  plate_any : (kind : ℕ) → PlateRanges kind p → BodyHolds h kind (isPlate p) (plate_trail h kind id p (plateWork h kind p))
  plate_any zero pr = absurd (omega (arith, pr.kind_low))
  plate_any (suc zero) pr = plate_1 pr
  plate_any (suc (suc zero)) pr = plate_2 pr
  plate_any (suc (suc (suc zero))) pr = plate_3 pr
  plate_any (suc (suc (suc (suc zero)))) pr = plate_4 pr
  plate_any (suc (suc (suc (suc (suc n))))) pr = absurd (omega (arith, pr.kind_high))

-- ---- a member

module _ (h : Header) (id : ℕ) (m : Member) (hr : HeaderRanges h) (steel : 500 ≤ m.factor.0) where
  member_5 : MemberRanges 5 m → BodyHolds h 5 (isMember m) (member_trail h 5 id m (memberWork h 5 m))
  unfolding says templates load_numbers head_of member_trail
  member_5 mr =
      let s = on_sea (members.facts h id m hr steel 5 (web_rule h 5 m)) 5 0 m.bending 0 h.draught.0 m.eta (member_named h 5 m).source m.shear h.wave.0 id m.span.0 m.factor.0 h.length.0 0 0 m.stress (member_named h 5 m).pressure (memberWork h 5 m).line 0 m.spacing.0 0 0 (memberWork h 5 m).verdict.rule 0 0 0 m.z.0 0 0 (memberWork h 5 m).verdict.required h.version 0 (deciding_decides _ _) false refl in
      record {
        head = ((tt, (tt, (tt, (refl, (tt, (tt, (tt, tt))))))), ((tt, tt), (s.0, (s.1, (s.2, (s.3, (s.4, (s.5, (tt, tt)))))))));
        one = members.first_5 h id m hr steel mr;
        two = members.second_5 h id m hr steel mr;
        three = members.third_5 h id m hr steel mr;
      }

  member_6 : MemberRanges 6 m → BodyHolds h 6 (isMember m) (member_trail h 6 id m (memberWork h 6 m))
  unfolding says templates load_numbers head_of member_trail
  member_6 mr =
      let s = on_whole (members.facts h id m hr steel 6 (web_rule h 6 m)) 6 0 m.bending 0 h.draught.0 m.eta (member_named h 6 m).source m.shear h.wave.0 id m.span.0 m.factor.0 h.length.0 0 0 m.stress (member_named h 6 m).pressure (memberWork h 6 m).line 0 m.spacing.0 0 0 (memberWork h 6 m).verdict.rule 0 0 0 m.z.0 0 0 (memberWork h 6 m).verdict.required h.version 0 (deciding_decides _ _) h.two_runs refl in
      record {
        head = ((tt, (tt, (tt, (refl, (tt, (tt, (tt, tt))))))), ((tt, tt), (s.0, (s.1, (tt, (tt, (tt, (tt, (tt, tt)))))))));
        one = members.first_6 h id m hr steel mr;
        two = members.second_6 h id m hr steel mr;
        three = members.third_6 h id m hr steel mr;
      }

  member_7 : MemberRanges 7 m → BodyHolds h 7 (isMember m) (member_trail h 7 id m (memberWork h 7 m))
  unfolding says templates load_numbers head_of member_trail
  member_7 mr =
      let s = on_whole (members.facts h id m hr steel 7 (web_rule h 7 m)) 7 0 m.bending 0 h.draught.0 m.eta (member_named h 7 m).source m.shear h.wave.0 id m.span.0 m.factor.0 h.length.0 0 0 m.stress (member_named h 7 m).pressure (memberWork h 7 m).line 0 m.spacing.0 0 0 (memberWork h 7 m).verdict.rule 0 0 0 m.z.0 0 0 (memberWork h 7 m).verdict.required h.version 0 (deciding_decides _ _) h.two_runs refl in
      record {
        head = ((tt, (tt, (tt, (refl, (tt, (tt, (tt, tt))))))), ((tt, tt), (s.0, (s.1, (tt, (tt, (tt, (tt, (tt, tt)))))))));
        one = members.first_7 h id m hr steel mr;
        two = members.second_7 h id m hr steel mr;
        three = members.third_7 h id m hr steel mr;
      }

  member_8 : MemberRanges 8 m → BodyHolds h 8 (isMember m) (member_trail h 8 id m (memberWork h 8 m))
  unfolding says templates load_numbers head_of member_trail
  member_8 mr =
      let s = on_whole (members.facts h id m hr steel 8 (web_rule h 8 m)) 8 0 m.bending 0 h.draught.0 m.eta (member_named h 8 m).source m.shear h.wave.0 id m.span.0 m.factor.0 h.length.0 0 0 m.stress (member_named h 8 m).pressure (memberWork h 8 m).line 0 m.spacing.0 0 0 (memberWork h 8 m).verdict.rule 0 0 0 m.z.0 0 0 (memberWork h 8 m).verdict.required h.version 0 (deciding_decides _ _) h.two_runs refl in
      record {
        head = ((tt, (tt, (tt, (refl, (tt, (tt, (tt, tt))))))), ((tt, tt), (s.0, (s.1, (tt, (tt, (tt, (tt, (tt, tt)))))))));
        one = members.first_8 h id m hr steel mr;
        two = members.second_8 h id m hr steel mr;
        three = members.third_8 h id m hr steel mr;
      }

  member_any : (kind : ℕ) → MemberRanges kind m → BodyHolds h kind (isMember m) (member_trail h kind id m (memberWork h kind m))
  member_any zero mr = absurd (omega (arith, mr.kind_low))
  member_any (suc zero) mr = absurd (omega (arith, mr.kind_low))
  member_any (suc (suc zero)) mr = absurd (omega (arith, mr.kind_low))
  member_any (suc (suc (suc zero))) mr = absurd (omega (arith, mr.kind_low))
  member_any (suc (suc (suc (suc zero)))) mr = absurd (omega (arith, mr.kind_low))
  member_any (suc (suc (suc (suc (suc zero))))) mr = member_5 mr
  member_any (suc (suc (suc (suc (suc (suc zero)))))) mr = member_6 mr
  member_any (suc (suc (suc (suc (suc (suc (suc zero))))))) mr = member_7 mr
  member_any (suc (suc (suc (suc (suc (suc (suc (suc zero)))))))) mr = member_8 mr
  member_any (suc (suc (suc (suc (suc (suc (suc (suc (suc n))))))))) mr = absurd (omega (arith, mr.kind_high))

-- ---- a record

-- a version is 1 or more
own_named : (o : Own) → 1 ≤ (version_of o).number
own_named One = omega arith
own_named (Two s) = omega arith

-- the steel factor's lowest, which the ranges of a member leave out
steel_low : (kind id : ℕ) (m : Member) → member_fault kind id m ≡ 0 → 500 ≤ m.factor.0
steel_low kind id m e = (low_high steel_factor m.factor.0 (member_allowed kind id m e).1.1.1.1.1.1.1.1.1.1.1.1.0).0

pub all_hold : (h : Header) (r : Record) → Sound h r → BodyHolds h r.kind r.body (explained h r)
unfolding plate_explained member_explained
all_hold h r s = go r.kind r.id r.body s.body
  where
    hr : HeaderRanges h
    hr = header_ranges h s.header

    go : (kind id : ℕ) (b : Body) → record_fault (record { kind = kind; id = id; body = b }) 0 ≡ 0 → BodyHolds h kind b (explained h (record { kind = kind; id = id; body = b }))
    go kind id (isPlate p) e =
        let named : 1 ≤ h.version = omega (arith, header_version h s.header, own_named h.own) in
        let t = sound_given h (of_plate kind id p) (plate_trail h kind id p (plateWork h kind p)) (record { header = s.header; body = e }) in
        subst (BodyHolds h kind (isPlate p)) (sym (ap trail_by t)) (plate_any h id p hr named kind (plate_ranges kind id p 0 e))
    go kind id (isMember m) e =
        let t = sound_given h (of_member kind id m) (member_trail h kind id m (memberWork h kind m)) (record { header = s.header; body = e }) in
        subst (BodyHolds h kind (isMember m)) (sym (ap trail_by t)) (member_any h id m hr (steel_low kind id m e) kind (member_ranges kind id m e))

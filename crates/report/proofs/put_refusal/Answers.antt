-- `report::put_refusal` meets its contract: the word stands in front, and the line of the number and the place behind it, for which there is room.
use Rattle.std.proofs.Common.{◌≡◌, ℕ, ◌+◌, ◌^◌, ◌≤◌, ◌<◌, List, [], ◌∷◌, ◌++◌, length, sym, ap, ap₂, arith}
use Rattle.decimal.specs.laws.LaidLaws.{put_front, second_fits, laid_both}
use Rattle.sheet.specs.declared.Refusal.{Refusal}
use Rattle.sheet.specs.Refusals.{number_of, place_of}
use Rattle.report.specs.Text.{line, refused_word}
use Rattle.report.specs.laws.TextLaws.{pair_most}
use Rattle.report.specs.Pieces.{refusal_text}
use Rattle.report.specs.laws.PiecesLaws.{number_small}
use Rattle.report.proofs.put_refusal.Goals as goal

module _ (r : Refusal) (k p : ℕ) (e : k ≡ number_of r) (f : p ≡ place_of r) where
  split : refusal_text r ≡ refused_word ++ line (k ∷ p ∷ [])
  unfolding refusal_text
  split = ap₂ {C = List ℕ} (λ x y. refused_word ++ line (x ∷ y ∷ [])) (sym e) (sym f)

  fits : (page : List ℕ) → p < 4294967296 → 22 ≤ length page → 0 + length (refusal_text r) ≤ length page
  fits page l h =
      let small : k < 10 ^ 2 = omega (arith, e, number_small r) in
      let most = pair_most 1 9 k p small (omega arith) in
      omega (arith, ap length split, most, h)

pub put_pair-requires : goal.put_pair-requires
put_pair-requires c =
    let k = c.number-number.result in
    let p = c.place-place.result in
    let e = c.number-number.ensures in
    let f = c.place-place.ensures in
    let o = c.args.page.now in
    let word = put_front o refused_word (omega (arith, c.requires)) c.write_text-at.ensures in
    second_fits o 0 refused_word (line (k ∷ p ∷ [])) (split c.args.r k p e f) (fits c.args.r k p e f o c.place-place.type_inv c.requires) word

pub returns : goal.returns
returns c =
    let k = c.number-number.result in
    let p = c.place-place.result in
    let e = c.number-number.ensures in
    let f = c.place-place.ensures in
    let o = c.args.page.now in
    let word = put_front o refused_word (omega (arith, c.requires)) c.write_text-at.ensures in
    let l = laid_both o 0 refused_word (line (k ∷ p ∷ [])) (split c.args.r k p e f) (fits c.args.r k p e f o c.place-place.type_inv c.requires) word c.put_pair.ensures in
    record { place = l.place; bytes = l.bytes }

-- The bits begin with at most one run of units.
use Rattle.std.proofs.Common.{◌≡◌, inl, inr, ℕ, ◌+◌, ◌*◌, Bool, List, [], ◌∷◌, ap, sym, ◌∙◌, subst}
use Rattle.asn1_model.specs.Per
use Rattle.per_codec_laws.specs.Takes.{Position, Front}
use Rattle.per_codec_reading.specs.declared.length.Length.TheVariants.{Short, Fragment}
use Rattle.per_codec_reading.specs.Units.{Units, counted_units}
use Rattle.per_codec_reading.proofs.UnitFronts.{Divided, last_out, more_out}
use Rattle.per_codec_reading.proofs.RunFronts.{Run, piece_in, piece_one, run_cases, run_out}

module _ (free : Per.Freedom → Bool) (al : Bool) (w : ℕ) where
  divided_one : (ms : List ℕ) (n m : ℕ) (bs cs : List Bool) (a b c : Position) → Divided free al w ms n bs a b → Run free al w m cs a c → n ≡ m
  divided_one [] n m bs cs a b c d r =
      let l = last_out free al w n bs a b d in
      let p = piece_in free al w (Short n) bs a l.0 b l.1 l.2 d.size in
      elim (run_cases free al w m cs a c r) [
        | inl q ↦ let o = piece_one free al w (Short n) (Short m) bs cs a b c p q in let e : Short n ≡ Short m = o.0 in cc
        | inr f ↦ let o = piece_one free al w (Short n) (Fragment f.size) bs f.first a b f.mid p f.piece in let e : Short n ≡ Fragment f.size = o.0 in cc
      ]
  divided_one (k ∷ ms) n m bs cs a b c d r =
      let x = more_out free al w k n ms bs a b d in
      let p = piece_in free al w (Fragment k) x.first a x.mid x.next x.head x.leads x.size in
      elim (run_cases free al w m cs a c r) [
        | inl q ↦ let o = piece_one free al w (Fragment k) (Short m) x.first cs a x.next c p q in let e : Fragment k ≡ Short m = o.0 in cc
        | inr f ↦
            let o = piece_one free al w (Fragment k) (Fragment f.size) x.first f.first a x.next f.mid p f.piece in
            let e : Fragment k ≡ Fragment f.size = o.0 in
            let s : k ≡ f.size = cc in
            let i = divided_one ms x.rest f.rest x.further f.further x.next b c x.behind (subst (λ y. Run free al w f.rest f.further y c) (sym o.2) f.behind) in
            x.count ∙ ap (λ y. y * 16384 + x.rest) s ∙ ap (λ y. f.size * 16384 + y) i ∙ sym f.count
      ]

  -- Units after a length determinant are equal in number.
  pub counted_one : (us vs : Units) (a b c : Position) → Front free (counted_units al w us) a b → Front free (counted_units al w vs) a c → us.0 ≡ vs.0
  counted_one us vs a b c f g =
      let r = run_out free al w us.0 us.1 a b f in
      divided_one r.sizes us.0 vs.0 us.1 vs.1 a b c r.divided (run_out free al w vs.0 vs.1 a c g)

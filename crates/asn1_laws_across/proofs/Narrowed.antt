-- A reading that uses no freedom but those that are allowed is a reading with them.
use Rattle.std.proofs.Common.{◌≡◌, ℕ, ◌+◌, Bool, IsTrue, List, length, inl, inr, ◌⊎◌}
use Rattle.asn1_model.specs.Form.{Form, exactly, refused, both, placed, varied, within, Reads}
use Rattle.asn1_model.specs.Rules.{Rules, uper, aper, uper_strict, aper_strict, oer, coer, IsEncoding}
use Rattle.asn1_laws_across.specs.InOrder.{ReadsWith}
use Rattle.asn1_laws_across.specs.OwnWidth.{Meets, HasOwnWidths, IsEncodingOfOwnWidth}
use Rattle.asn1_laws_across.specs.Laws.{ReadWithOwnWidth}

module _ {F : Type 0} {D : F → Type 0} {A : Type 0} (free : F → Bool) (may : Form F D A → Form F D A → Type 0) where
  pub narrowed : (x : Form F D A) (p : ℕ) (w : List A) (h : Reads free x p w) → Meets free may x p w h → ReadsWith may x p w
  unfolding Reads ReadsWith Meets
  narrowed (exactly l) p w h k = h
  narrowed refused p w h k = h
  narrowed (both x y) p w h k = (h.0, h.1, narrowed x p h.0 h.2 k.0, narrowed y (p + length h.0) h.1 h.3 k.1, h.4)
  narrowed (placed f) p w h k = narrowed (f p) p w h k
  narrowed (varied c d f) p w h k = (h.0, met h.1, narrowed (f h.0) p w h.2 k.1)
    where
      met : (h.0 ≡ d) ⊎ IsTrue (free c) → (h.0 ≡ d) ⊎ may (varied c d f) (f h.0)
      met (inl e) = inl e
      met (inr t) = k.0 t
  narrowed (within x f) p w h k = (h.0, narrowed x 0 h.0 h.1 k.0, narrowed (f h.0) p w h.2 k.1)

pub with_own_width : ReadWithOwnWidth
unfolding IsEncoding IsEncodingOfOwnWidth HasOwnWidths
with_own_width uper s v w h k = (h.0, narrowed _ _ _ _ _ h.1 k)
with_own_width aper s v w h k = (h.0, narrowed _ _ _ _ _ h.1 k)
with_own_width uper_strict s v w h k = (h.0, narrowed _ _ _ _ _ h.1 k)
with_own_width aper_strict s v w h k = (h.0, narrowed _ _ _ _ _ h.1 k)
with_own_width oer s v w h k = (h.0, narrowed _ _ _ _ _ h.1 k)
with_own_width coer s v w h k = (h.0, narrowed _ _ _ _ _ h.1 k)

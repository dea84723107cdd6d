-- Octets that begin with other octets.
use Rattle.std.proofs.Common.{◌≡◌, ℕ, List, [], ◌++◌, ap, sym, ◌∙◌, append_assoc}
use Rattle.std.proofs.lemmas.List.{append-nil}
use Rattle.asn1_model.specs.Versions.{Begins}

pub begins_same : (o p : List ℕ) → p ≡ o → Begins o p
begins_same o p e = ([], append-nil o ∙ sym e)

pub begins_through : (o m p : List ℕ) → Begins o m → Begins m p → Begins o p
begins_through o m p h k = (h.0 ++ k.0, sym (append_assoc o h.0 k.0) ∙ ap (λ l. l ++ k.0) h.1 ∙ k.1)

-- more was added in between
pub begins_behind : (o m p w : List ℕ) → m ≡ o ++ w → Begins m p → Begins o p
begins_behind o m p w e k = begins_through o m p (w, sym e) k

-- What was there before stays, whatever a write does.
use Rattle.std.proofs.Common.{◌≡◌, ℕ, List, ◌++◌, Option, Some, None}
use Rattle.asn1_model.specs.Versions.{Begins}
use Rattle.asn1_values_identifiers.proofs.Begins.{begins_through}
use Rattle.oer_codec_writing.specs.Writing.{Adds}

pub begins_text : (t : Option (List ℕ)) (o p : List ℕ) → Adds t o p → Begins o p
begins_text None o p a = cc
begins_text (Some w) o p a = let e : o ++ w ≡ p = cc a in (w, e)

-- a text was added in between
pub begins_behind_text : (t : Option (List ℕ)) (o m p : List ℕ) → Adds t o m → Begins m p → Begins o p
begins_behind_text t o m p a k = begins_through o m p (begins_text t o m a) k

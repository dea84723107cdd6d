-- The files that were read, and the texts so far.
use Rattle.std.proofs.Common.{◌≡◌, ◌∙◌, ◌<◌, ◌≤◌, ◌+◌, ℕ, zero, suc, List, [], ◌∷◌, ◌++◌, length, map, take, get_or}
use Rattle.std.proofs.Common.{refl, sym, ap, ap₂, add-one, arith}
use Rattle.std.proofs.lemmas.List.{map-append}
use Rattle.asn1_notation_tree.specs.declared.tree.Syntax.{Syntax}
use Rattle.asn1_module_order.specs.declared.sources.Source.{Source}

abbrev pub lengths : List Syntax → List ℕ
lengths = map (λ f. f.items.text_length)

abbrev pub sizes : List Source → List ℕ
sizes = map (λ s. length s.text.items)

sizes_more : (sources : List Source) (i : ℕ) (s : Source) → i < length sources → s ≡ get_or sources i s → sizes (take (suc i) sources) ≡ sizes (take i sources) ++ length s.text.items ∷ []
sizes_more [] i s h e = absurd (omega (arith, h))
sizes_more (x ∷ xs) zero s h e = ap (λ (y : Source). length y.text.items ∷ []) (sym e)
sizes_more (x ∷ xs) (suc i) s h e = ap (λ l. length x.text.items ∷ l) (sizes_more xs i s (omega (arith, h)) e)

pub one_more_file : (sources : List Source) (i : ℕ) (s : Source) (files longer : List Syntax) (syntax : Syntax) → i < length sources → s ≡ get_or sources i s
    → longer ≡ files ++ syntax ∷ [] → syntax.items.text_length ≡ length s.text.items → lengths files ≡ sizes (take i sources) → lengths longer ≡ sizes (take (i + 1) sources)
one_more_file sources i s files longer syntax within is more same before =
    ap lengths more ∙ map-append (λ (f : Syntax). f.items.text_length) files (syntax ∷ [])
    ∙ ap₂ (λ l n. l ++ n ∷ []) before same
    ∙ sym (sizes_more sources i s within is)
    ∙ ap (λ k. sizes (take k sources)) (sym (add-one i))

all_taken : (sources : List Source) (i : ℕ) → length sources ≤ i → sizes (take i sources) ≡ sizes sources
all_taken [] zero h = refl
all_taken [] (suc i) h = refl
all_taken (x ∷ xs) zero h = absurd (omega (arith, h))
all_taken (x ∷ xs) (suc i) h = ap (λ l. length x.text.items ∷ l) (all_taken xs i (omega (arith, h)))

pub all_files : (sources : List Source) (i : ℕ) (files : List Syntax) → length sources ≤ i → lengths files ≡ sizes (take i sources) → lengths files ≡ sizes sources
all_files sources i files h before = before ∙ all_taken sources i h

use Rattle.std.specs.Prelude.{◌≡◌, ℕ, true, false, cond, ◌==◌, IsTrue, [], ◌∷◌, replicate, Option, Some, None}
use Rattle.std.proofs.Common.{refl}
use borrow.Author.Tests.{ltb-true}
use Rattle.asn1_model.specs.Rules.{IsEncoding, lenient, strict_per, strict_oer}
use Rattle.asn1_model.specs.Per
use Rattle.asn1_model.specs.Oer
use Rattle.asn1_model.proofs.Forms.{reads_written_by}
use Rattle.asn1_model.proofs.OnValues.{on_values}
use Rattle.asn1_model.specs.Types.{ones}
use Rattle.asn1_model_rows.proofs.reading_rows.Goals as goal

abbrev PerChoice : Type 0
PerChoice = (c : Per.Freedom) → ℕ → Option (Per.Detail c)

abbrev OerChoice : Type 0
OerChoice = (c : Oer.Freedom) → ℕ → Option (Oer.Detail c)

abbrev choice_0 : PerChoice
choice_0 Per.any_padding p = cond (p == 4) (Some (false ∷ true ∷ true ∷ true ∷ [])) None
choice_0 c p = None

abbrev choice_1 : PerChoice
choice_1 Per.any_padding p = cond (p == 5) (Some (true ∷ true ∷ true ∷ [])) None
choice_1 c p = None

abbrev choice_2 : PerChoice
choice_2 Per.any_padding p = cond (p == 1) (Some (false ∷ true ∷ false ∷ true ∷ false ∷ true ∷ false ∷ [])) None
choice_2 c p = None

abbrev choice_3 : OerChoice
choice_3 Oer.any_truth p = Some 5
choice_3 c p = None

abbrev choice_4 : OerChoice
choice_4 Oer.longer_number p = Some 2
choice_4 c p = None

abbrev choice_5 : PerChoice
choice_5 Per.longer_number p = Some 2
choice_5 c p = None

abbrev choice_6 : OerChoice
choice_6 Oer.longer_length p = Some (Some 127)
choice_6 c p = None

abbrev choice_7 : PerChoice
choice_7 Per.longer_number p = Some 2
choice_7 c p = None

abbrev choice_8 : PerChoice
choice_8 Per.root_told_outside p = Some true
choice_8 c p = None

abbrev choice_9 : PerChoice
choice_9 Per.root_told_outside p = Some true
choice_9 c p = None

abbrev choice_10 : PerChoice
choice_10 Per.two_octet_length p = Some true
choice_10 c p = None

abbrev choice_11 : PerChoice
choice_11 Per.other_fragments p = Some (1 ∷ 1 ∷ [])
choice_11 c p = None

abbrev choice_12 : OerChoice
choice_12 Oer.longer_length p = Some (Some 1)
choice_12 c p = None

abbrev choice_13 : OerChoice
choice_13 Oer.empty_bit_string p = Some true
choice_13 c p = None

abbrev choice_14 : OerChoice
choice_14 c p = None

free_14 : (c : Oer.Freedom) (p : ℕ) (d : Oer.Detail c) → choice_14 c p ≡ Some d → IsTrue (strict_oer c)
free_14 Oer.other_bitmap p d e = refl
free_14 Oer.empty_bitmap p d e = refl
free_14 Oer.other_order p d e = refl
free_14 c p d e = cc

abbrev choice_15 : OerChoice
choice_15 Oer.any_unused_bits p = Some (true ∷ true ∷ true ∷ true ∷ [])
choice_15 c p = None

abbrev choice_16 : OerChoice
choice_16 Oer.longer_number p = cond (p == 0) (Some 2) None
choice_16 c p = None

abbrev choice_17 : OerChoice
choice_17 Oer.default_spelled_out p = Some true
choice_17 c p = None

abbrev choice_18 : PerChoice
choice_18 Per.default_spelled_out p = Some true
choice_18 c p = None

abbrev choice_19 : OerChoice
choice_19 Oer.longer_item p = Some (Some 2)
choice_19 c p = None

abbrev choice_20 : OerChoice
choice_20 Oer.long_tag p = Some true
choice_20 c p = None

abbrev choice_21 : OerChoice
choice_21 Oer.other_bitmap p = Some (Some (record { covered = 1; further = Some (0xAA ∷ []) ∷ [] }))
choice_21 c p = None

free_21 : (c : Oer.Freedom) (p : ℕ) (d : Oer.Detail c) → choice_21 c p ≡ Some d → IsTrue (strict_oer c)
free_21 Oer.other_bitmap p d e = refl
free_21 Oer.empty_bitmap p d e = refl
free_21 Oer.other_order p d e = refl
free_21 c p d e = cc

abbrev choice_22 : OerChoice
choice_22 Oer.other_bitmap p = Some (Some (record { covered = 0; further = Some (0x07 ∷ []) ∷ Some (0xAA ∷ []) ∷ [] }))
choice_22 c p = None

free_22 : (c : Oer.Freedom) (p : ℕ) (d : Oer.Detail c) → choice_22 c p ≡ Some d → IsTrue (strict_oer c)
free_22 Oer.other_bitmap p d e = refl
free_22 Oer.empty_bitmap p d e = refl
free_22 Oer.other_order p d e = refl
free_22 c p d e = cc

abbrev choice_23 : OerChoice
choice_23 Oer.other_bitmap p = Some (Some (record { covered = 1; further = [] }))
choice_23 Oer.empty_bitmap p = Some true
choice_23 c p = None

free_23 : (c : Oer.Freedom) (p : ℕ) (d : Oer.Detail c) → choice_23 c p ≡ Some d → IsTrue (strict_oer c)
free_23 Oer.other_bitmap p d e = refl
free_23 Oer.empty_bitmap p d e = refl
free_23 Oer.other_order p d e = refl
free_23 c p d e = cc

abbrev choice_24 : OerChoice
choice_24 Oer.other_bitmap p = Some (Some (record { covered = 0; further = [] }))
choice_24 Oer.empty_bitmap p = Some true
choice_24 c p = None

free_24 : (c : Oer.Freedom) (p : ℕ) (d : Oer.Detail c) → choice_24 c p ≡ Some d → IsTrue (strict_oer c)
free_24 Oer.other_bitmap p d e = refl
free_24 Oer.empty_bitmap p d e = refl
free_24 Oer.other_order p d e = refl
free_24 c p d e = cc

abbrev choice_25 : OerChoice
choice_25 Oer.other_bitmap p = Some (Some (record { covered = 1; further = Some (0xAA ∷ []) ∷ [] }))
choice_25 c p = None

abbrev choice_26 : OerChoice
choice_26 Oer.other_bitmap p = Some (Some (record { covered = 0; further = Some (0x07 ∷ []) ∷ Some (0xAA ∷ []) ∷ [] }))
choice_26 c p = None

abbrev choice_27 : OerChoice
choice_27 Oer.other_bitmap p = Some (Some (record { covered = 1; further = [] }))
choice_27 Oer.empty_bitmap p = Some true
choice_27 c p = None

abbrev choice_28 : OerChoice
choice_28 Oer.other_bitmap p = Some (Some (record { covered = 0; further = [] }))
choice_28 Oer.empty_bitmap p = Some true
choice_28 c p = None

abbrev choice_29 : OerChoice
choice_29 Oer.other_bitmap p = Some (Some (record { covered = 1; further = replicate 255 None }))
choice_29 c p = None

free_29 : (c : Oer.Freedom) (p : ℕ) (d : Oer.Detail c) → choice_29 c p ≡ Some d → IsTrue (strict_oer c)
free_29 Oer.other_bitmap p d e = refl
free_29 Oer.empty_bitmap p d e = refl
free_29 Oer.other_order p d e = refl
free_29 c p d e = cc

abbrev choice_30 : OerChoice
choice_30 Oer.other_bitmap p = Some (Some (record { covered = 1; further = replicate 2047 None }))
choice_30 c p = None

free_30 : (c : Oer.Freedom) (p : ℕ) (d : Oer.Detail c) → choice_30 c p ≡ Some d → IsTrue (strict_oer c)
free_30 Oer.other_bitmap p d e = refl
free_30 Oer.empty_bitmap p d e = refl
free_30 Oer.other_order p d e = refl
free_30 c p d e = cc

abbrev choice_31 : OerChoice
choice_31 Oer.any_unused_bits p = Some (true ∷ true ∷ true ∷ true ∷ true ∷ true ∷ true ∷ [])
choice_31 c p = None

abbrev choice_32 : OerChoice
choice_32 Oer.octets_behind p = Some (0xAA ∷ [])
choice_32 c p = None

abbrev choice_33 : PerChoice
choice_33 Per.other_bitmap p = Some (Some (record { covered = 1; further = Some (0xAA ∷ []) ∷ [] }))
choice_33 c p = None

abbrev choice_34 : PerChoice
choice_34 Per.other_bitmap p = Some (Some (record { covered = 0; further = Some (0x07 ∷ []) ∷ Some (0xAA ∷ []) ∷ [] }))
choice_34 c p = None

abbrev choice_35 : PerChoice
choice_35 Per.other_bitmap p = Some (Some (record { covered = 0; further = Some (0x07 ∷ []) ∷ [] }))
choice_35 c p = None

abbrev choice_36 : PerChoice
choice_36 Per.other_bitmap p = Some (Some (record { covered = 1; further = Some (0xAA ∷ []) ∷ [] }))
choice_36 c p = None

free_36 : (c : Per.Freedom) (p : ℕ) (d : Per.Detail c) → choice_36 c p ≡ Some d → IsTrue (strict_per c)
free_36 Per.other_bitmap p d e = refl
free_36 Per.other_order p d e = refl
free_36 c p d e = cc

abbrev choice_37 : PerChoice
choice_37 Per.other_bitmap p = Some (Some (record { covered = 0; further = Some (0x07 ∷ []) ∷ Some (0xAA ∷ []) ∷ [] }))
choice_37 c p = None

free_37 : (c : Per.Freedom) (p : ℕ) (d : Per.Detail c) → choice_37 c p ≡ Some d → IsTrue (strict_per c)
free_37 Per.other_bitmap p d e = refl
free_37 Per.other_order p d e = refl
free_37 c p d e = cc

abbrev choice_38 : PerChoice
choice_38 Per.other_bitmap p = Some (Some (record { covered = 0; further = Some (0x07 ∷ []) ∷ [] }))
choice_38 c p = None

free_38 : (c : Per.Freedom) (p : ℕ) (d : Per.Detail c) → choice_38 c p ≡ Some d → IsTrue (strict_per c)
free_38 Per.other_bitmap p d e = refl
free_38 Per.other_order p d e = refl
free_38 c p d e = cc

abbrev choice_39 : PerChoice
choice_39 Per.other_bitmap p = Some (Some (record { covered = 1; further = [] }))
choice_39 Per.empty_bitmap p = Some true
choice_39 c p = None

abbrev choice_40 : PerChoice
choice_40 Per.other_bitmap p = Some (Some (record { covered = 0; further = [] }))
choice_40 Per.empty_bitmap p = Some true
choice_40 c p = None

abbrev choice_41 : PerChoice
choice_41 Per.octets_behind p = Some (0xAA ∷ [])
choice_41 c p = None

abbrev choice_42 : PerChoice
choice_42 Per.empty_group p = Some true
choice_42 c p = None

abbrev choice_43 : OerChoice
choice_43 Oer.empty_group p = Some true
choice_43 c p = None

abbrev choice_44 : PerChoice
choice_44 Per.long_small_number p = Some true
choice_44 c p = None

abbrev choice_45 : PerChoice
choice_45 Per.other_order p = Some (Some (1 ∷ 0 ∷ 0 ∷ []))
choice_45 c p = None

abbrev choice_46 : PerChoice
choice_46 Per.other_order p = Some (Some (1 ∷ 0 ∷ 0 ∷ []))
choice_46 c p = None

free_46 : (c : Per.Freedom) (p : ℕ) (d : Per.Detail c) → choice_46 c p ≡ Some d → IsTrue (strict_per c)
free_46 Per.other_bitmap p d e = refl
free_46 Per.other_order p d e = refl
free_46 c p d e = cc

abbrev choice_47 : OerChoice
choice_47 Oer.other_order p = Some (Some (1 ∷ 0 ∷ 0 ∷ []))
choice_47 c p = None

free_47 : (c : Oer.Freedom) (p : ℕ) (d : Oer.Detail c) → choice_47 c p ≡ Some d → IsTrue (strict_oer c)
free_47 Oer.other_bitmap p d e = refl
free_47 Oer.empty_bitmap p d e = refl
free_47 Oer.other_order p d e = refl
free_47 c p d e = cc

abbrev choice_48 : PerChoice
choice_48 Per.default_spelled_out p = Some true
choice_48 Per.other_bitmap p = Some (Some (record { covered = 0; further = Some (0x07 ∷ []) ∷ [] }))
choice_48 c p = None

abbrev choice_49 : PerChoice
choice_49 Per.long_small_number p = Some true
choice_49 Per.two_octet_length p = cond (p == 3) (Some true) None
choice_49 c p = None

abbrev choice_50 : PerChoice
choice_50 Per.any_padding p = cond (p == 1) (Some (ones 7)) None
choice_50 c p = None

abbrev choice_51 : PerChoice
choice_51 Per.two_octet_length p = Some true
choice_51 c p = None

abbrev choice_52 : PerChoice
choice_52 Per.long_small_number p = Some true
choice_52 c p = None

abbrev choice_53 : PerChoice
choice_53 Per.longer_number p = Some 3
choice_53 c p = None

abbrev choice_54 : PerChoice
choice_54 Per.octets_behind p = Some (0xAA ∷ [])
choice_54 c p = None

abbrev choice_55 : PerChoice
choice_55 Per.other_bitmap p = Some (Some (record { covered = 1; further = [] }))
choice_55 c p = None

abbrev choice_56 : PerChoice
choice_56 Per.other_bitmap p = Some (Some (record { covered = 1; further = [] }))
choice_56 c p = None

free_56 : (c : Per.Freedom) (p : ℕ) (d : Per.Detail c) → choice_56 c p ≡ Some d → IsTrue (strict_per c)
free_56 Per.other_bitmap p d e = refl
free_56 c p d e = cc

abbrev choice_57 : OerChoice
choice_57 Oer.other_bitmap p = Some (Some (record { covered = 1; further = [] }))
choice_57 c p = None

free_57 : (c : Oer.Freedom) (p : ℕ) (d : Oer.Detail c) → choice_57 c p ≡ Some d → IsTrue (strict_oer c)
free_57 Oer.other_bitmap p d e = refl
free_57 c p d e = cc

abbrev choice_58 : PerChoice
choice_58 Per.other_bitmap p = Some (Some (record { covered = 0; further = Some [] ∷ [] }))
choice_58 c p = None

abbrev choice_59 : PerChoice
choice_59 Per.other_bitmap p = Some (Some (record { covered = 0; further = Some [] ∷ [] }))
choice_59 c p = None

free_59 : (c : Per.Freedom) (p : ℕ) (d : Per.Detail c) → choice_59 c p ≡ Some d → IsTrue (strict_per c)
free_59 Per.other_bitmap p d e = refl
free_59 c p d e = cc

abbrev choice_60 : OerChoice
choice_60 Oer.other_bitmap p = Some (Some (record { covered = 0; further = Some [] ∷ [] }))
choice_60 c p = None

free_60 : (c : Oer.Freedom) (p : ℕ) (d : Oer.Detail c) → choice_60 c p ≡ Some d → IsTrue (strict_oer c)
free_60 Oer.other_bitmap p d e = refl
free_60 c p d e = cc

abbrev choice_61 : PerChoice
choice_61 Per.default_spelled_out p = Some true
choice_61 Per.other_bitmap p = Some (Some (record { covered = 1; further = [] }))
choice_61 c p = None

abbrev choice_62 : OerChoice
choice_62 Oer.longer_length p = Some (Some 2)
choice_62 Oer.longer_number p = Some 2
choice_62 c p = None

abbrev choice_63 : OerChoice
choice_63 Oer.longer_number p = Some 3
choice_63 c p = None

abbrev choice_64 : OerChoice
choice_64 Oer.long_tag p = Some true
choice_64 c p = None

abbrev choice_65 : OerChoice
choice_65 Oer.longer_item p = Some (Some 1)
choice_65 c p = None

abbrev choice_66 : OerChoice
choice_66 Oer.longer_item p = Some (Some 2)
choice_66 c p = None

abbrev choice_67 : OerChoice
choice_67 Oer.any_unused_bits p = Some (ones 4)
choice_67 c p = None

abbrev choice_68 : OerChoice
choice_68 Oer.longer_length p = Some (Some 1)
choice_68 c p = None

pub returns : goal.returns
unfolding on_values IsEncoding
returns c = (
  (ltb-true _ _ refl, reads_written_by lenient choice_0 _ 0 _ (λ c p d e. refl) refl),
  (ltb-true _ _ refl, reads_written_by lenient choice_1 _ 0 _ (λ c p d e. refl) refl),
  (ltb-true _ _ refl, reads_written_by lenient choice_2 _ 0 _ (λ c p d e. refl) refl),
  (ltb-true _ _ refl, reads_written_by lenient choice_3 _ 0 _ (λ c p d e. refl) refl),
  (ltb-true _ _ refl, reads_written_by lenient choice_4 _ 0 _ (λ c p d e. refl) refl),
  (ltb-true _ _ refl, reads_written_by lenient choice_5 _ 0 _ (λ c p d e. refl) refl),
  (ltb-true _ _ refl, reads_written_by lenient choice_6 _ 0 _ (λ c p d e. refl) refl),
  (ltb-true _ _ refl, reads_written_by lenient choice_7 _ 0 _ (λ c p d e. refl) refl),
  (ltb-true _ _ refl, reads_written_by lenient choice_8 _ 0 _ (λ c p d e. refl) refl),
  (ltb-true _ _ refl, reads_written_by lenient choice_9 _ 0 _ (λ c p d e. refl) refl),
  (ltb-true _ _ refl, reads_written_by lenient choice_10 _ 0 _ (λ c p d e. refl) refl),
  (ltb-true _ _ refl, reads_written_by lenient choice_11 _ 0 _ (λ c p d e. refl) refl),
  (ltb-true _ _ refl, reads_written_by lenient choice_12 _ 0 _ (λ c p d e. refl) refl),
  (ltb-true _ _ refl, reads_written_by lenient choice_13 _ 0 _ (λ c p d e. refl) refl),
  (ltb-true _ _ refl, reads_written_by strict_oer choice_14 _ 0 _ free_14 refl),
  (ltb-true _ _ refl, reads_written_by lenient choice_15 _ 0 _ (λ c p d e. refl) refl),
  (ltb-true _ _ refl, reads_written_by lenient choice_16 _ 0 _ (λ c p d e. refl) refl),
  (ltb-true _ _ refl, reads_written_by lenient choice_17 _ 0 _ (λ c p d e. refl) refl),
  (ltb-true _ _ refl, reads_written_by lenient choice_18 _ 0 _ (λ c p d e. refl) refl),
  (ltb-true _ _ refl, reads_written_by lenient choice_19 _ 0 _ (λ c p d e. refl) refl),
  (ltb-true _ _ refl, reads_written_by lenient choice_20 _ 0 _ (λ c p d e. refl) refl),
  (ltb-true _ _ refl, reads_written_by strict_oer choice_21 _ 0 _ free_21 refl),
  (ltb-true _ _ refl, reads_written_by strict_oer choice_22 _ 0 _ free_22 refl),
  (ltb-true _ _ refl, reads_written_by strict_oer choice_23 _ 0 _ free_23 refl),
  (ltb-true _ _ refl, reads_written_by strict_oer choice_24 _ 0 _ free_24 refl),
  (ltb-true _ _ refl, reads_written_by lenient choice_25 _ 0 _ (λ c p d e. refl) refl),
  (ltb-true _ _ refl, reads_written_by lenient choice_26 _ 0 _ (λ c p d e. refl) refl),
  (ltb-true _ _ refl, reads_written_by lenient choice_27 _ 0 _ (λ c p d e. refl) refl),
  (ltb-true _ _ refl, reads_written_by lenient choice_28 _ 0 _ (λ c p d e. refl) refl),
  (ltb-true _ _ refl, reads_written_by strict_oer choice_29 _ 0 _ free_29 refl),
  (ltb-true _ _ refl, reads_written_by strict_oer choice_30 _ 0 _ free_30 refl),
  (ltb-true _ _ refl, reads_written_by lenient choice_31 _ 0 _ (λ c p d e. refl) refl),
  (ltb-true _ _ refl, reads_written_by lenient choice_32 _ 0 _ (λ c p d e. refl) refl),
  (ltb-true _ _ refl, reads_written_by lenient choice_33 _ 0 _ (λ c p d e. refl) refl),
  (ltb-true _ _ refl, reads_written_by lenient choice_34 _ 0 _ (λ c p d e. refl) refl),
  (ltb-true _ _ refl, reads_written_by lenient choice_35 _ 0 _ (λ c p d e. refl) refl),
  (ltb-true _ _ refl, reads_written_by strict_per choice_36 _ 0 _ free_36 refl),
  (ltb-true _ _ refl, reads_written_by strict_per choice_37 _ 0 _ free_37 refl),
  (ltb-true _ _ refl, reads_written_by strict_per choice_38 _ 0 _ free_38 refl),
  (ltb-true _ _ refl, reads_written_by lenient choice_39 _ 0 _ (λ c p d e. refl) refl),
  (ltb-true _ _ refl, reads_written_by lenient choice_40 _ 0 _ (λ c p d e. refl) refl),
  (ltb-true _ _ refl, reads_written_by lenient choice_41 _ 0 _ (λ c p d e. refl) refl),
  (ltb-true _ _ refl, reads_written_by lenient choice_42 _ 0 _ (λ c p d e. refl) refl),
  (ltb-true _ _ refl, reads_written_by lenient choice_43 _ 0 _ (λ c p d e. refl) refl),
  (ltb-true _ _ refl, reads_written_by lenient choice_44 _ 0 _ (λ c p d e. refl) refl),
  (ltb-true _ _ refl, reads_written_by lenient choice_45 _ 0 _ (λ c p d e. refl) refl),
  (ltb-true _ _ refl, reads_written_by strict_per choice_46 _ 0 _ free_46 refl),
  (ltb-true _ _ refl, reads_written_by strict_oer choice_47 _ 0 _ free_47 refl),
  (ltb-true _ _ refl, reads_written_by lenient choice_48 _ 0 _ (λ c p d e. refl) refl),
  (ltb-true _ _ refl, reads_written_by lenient choice_49 _ 0 _ (λ c p d e. refl) refl),
  (ltb-true _ _ refl, reads_written_by lenient choice_50 _ 0 _ (λ c p d e. refl) refl),
  (ltb-true _ _ refl, reads_written_by lenient choice_51 _ 0 _ (λ c p d e. refl) refl),
  (ltb-true _ _ refl, reads_written_by lenient choice_52 _ 0 _ (λ c p d e. refl) refl),
  (ltb-true _ _ refl, reads_written_by lenient choice_53 _ 0 _ (λ c p d e. refl) refl),
  (ltb-true _ _ refl, reads_written_by lenient choice_54 _ 0 _ (λ c p d e. refl) refl),
  (ltb-true _ _ refl, reads_written_by lenient choice_55 _ 0 _ (λ c p d e. refl) refl),
  (ltb-true _ _ refl, reads_written_by strict_per choice_56 _ 0 _ free_56 refl),
  (ltb-true _ _ refl, reads_written_by strict_oer choice_57 _ 0 _ free_57 refl),
  (ltb-true _ _ refl, reads_written_by lenient choice_58 _ 0 _ (λ c p d e. refl) refl),
  (ltb-true _ _ refl, reads_written_by strict_per choice_59 _ 0 _ free_59 refl),
  (ltb-true _ _ refl, reads_written_by strict_oer choice_60 _ 0 _ free_60 refl),
  (ltb-true _ _ refl, reads_written_by lenient choice_61 _ 0 _ (λ c p d e. refl) refl),
  (ltb-true _ _ refl, reads_written_by lenient choice_62 _ 0 _ (λ c p d e. refl) refl),
  (ltb-true _ _ refl, reads_written_by lenient choice_63 _ 0 _ (λ c p d e. refl) refl),
  (ltb-true _ _ refl, reads_written_by lenient choice_64 _ 0 _ (λ c p d e. refl) refl),
  (ltb-true _ _ refl, reads_written_by lenient choice_65 _ 0 _ (λ c p d e. refl) refl),
  (ltb-true _ _ refl, reads_written_by lenient choice_66 _ 0 _ (λ c p d e. refl) refl),
  (ltb-true _ _ refl, reads_written_by lenient choice_67 _ 0 _ (λ c p d e. refl) refl),
  (ltb-true _ _ refl, reads_written_by lenient choice_68 _ 0 _ (λ c p d e. refl) refl),
)

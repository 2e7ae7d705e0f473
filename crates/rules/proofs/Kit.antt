-- What the proofs cite of the kit's libraries, under one name.
pub use Prim.Native.Nat.{◌%◌, ◌*◌, ◌+◌, ◌-◌, ◌/◌, ◌<◌, ◌^◌, ◌≤◌, min, suc, zero, zero-le, ℕ}
pub use borrow.Author.Rules.{rules, scaled_Fits}
pub use borrow.Author.Tests.{eq-eqb, eqb-false, eqb-true, le-leb, le-ltb, leb-false, leb-true, lt-leb, lt-ltb, ltb-false, ltb-true, ne_eqb, not-false, not-true}
pub use denote.Ref.{NamedLft, Bor, MutBor}
pub use lib.Dec.{T, eqb, leb, leb-zero as leb·zero, lit<, lit≤, ltb}
pub use lib.IntN.{+ℤ_assoc, ◌+ℤ◌, ◌-ℤ◌, nat_abs, negsuc, neg_ℤ, neg_ℤ-+ℤ, pos, sub_ℕ, ℤ}
pub use lib.ListN.{get_or-append as List·get_d-append, get_or-eq_default as List·get_d-eq-default, get_or-map as List·get_d-map, drop, drop_of_length-le, get_or, length, length-append, length-drop, length-map}
pub use lib.ListN.{length-set, length-take, replicate, set, take, take-append-drop}
pub use lib.Seq.{append_snoc, drop-append-add, drop-append-le, drop-append_seam, drop_at, drop-cons, drop-drop, drop-length, ext_get_or, get_or-append-add}
pub use lib.Seq.{get_or-drop, get_or-take, length-take-le, paste, paste-suc, paste-zero, set_at, set_out, sets, sets-eq, take-add, take_all, take-append-add}
pub use lib.Seq.{take-append-le, take-append_seam, take_at, take-length, take-nil, take-suc, take-take}
pub use lib.Signed.{le_z, lt_z, non_neg}
pub use mathlib.Core.Bool.{Bool, ◌&&◌, ◌||◌, cond, false, false≢true, not, true}
pub use mathlib.Core.List.Memᴰ.{append_cases as List·Memᴰ·append-cases}
pub use mathlib.Core.List.Memᴰ.{cases_cons as List·Memᴰ·cases-cons}
pub use mathlib.Core.List.Memᴰ.{head as List·Memᴰ·head}
pub use mathlib.Core.List.Memᴰ.{not-nil as List·Memᴰ·not-nil}
pub use mathlib.Core.List.Memᴰ.{tail as List·Memᴰ·tail}
pub use mathlib.Core.List.{List, Memᴰ as List-as-Memᴰ, Permᴰ as List-as-Permᴰ}
pub use mathlib.Core.List.Memᴰ.{append_left as Memᴰ·append-left}
pub use mathlib.Core.List.Memᴰ.{append_right as Memᴰ·append-right}
pub use mathlib.Core.List.Permᴰ.{append_left as Permᴰ·append-left}
pub use mathlib.Core.List.Permᴰ.{cons as List·Permᴰ·cons}
pub use mathlib.Core.List.Permᴰ.{nil as List·Permᴰ·nil}
pub use mathlib.Core.List.Permᴰ.{swap as List·Permᴰ·swap}
pub use mathlib.Core.List.Permᴰ.{trans as List·Permᴰ·trans}
pub use mathlib.Core.List.Permᴰ.{append-nil as Permᴰ·append-nil}
pub use mathlib.Core.List.Permᴰ.{middle as Permᴰ·middle}
pub use mathlib.Core.List.Permᴰ.{refl as Permᴰ·refl}
pub use mathlib.Core.List.Permᴰ.{symm as Permᴰ·symm}
pub use mathlib.Core.List.{[], ◌++◌, ◌∷◌, append_assoc, append-nil, foldl, foldl-append, map}
pub use mathlib.Core.List.{map-append}
pub use mathlib.Core.Logic.{◌↔◌, ◌⊎◌, inl, inr, ⊎_elim}
pub use mathlib.Core.Option.{Option, none-ne-some as Option·none-ne-some, some-injective as Option·some-injective, bind-eq-some_iff, none, some}
unfoldable pub use mathlib.Core.Option.{bind}
pub use mathlib.Core.Path.{◌∙◌, ◌≡◌, ap, ap₂, refl, subst, sym}
pub use mir.Syntax.{Body, Ty, add, assign, copy, erased, imm, int, mut, named, op2, place, ty_bool, ty_int, ty_ptr, ty_ref, unsigned, w64, w8}
pub use mir.Val.{Fits, SFits, Val, WT, has_ty, of_z, to_z, vbool, vint, vptr}
pub use mir.ValLaws.{of_z_fits, of_z-to_z, to_z-of_z, to_z_pos}
pub use native.Mathlib.Decide.{dec_lt}
pub use native.Mathlib.Nat.{add_assoc, add_comm, add-le-add, add_left_comm, add-mul, add-sub_cancel_left, add-suc, add-zero, div-add-mod', div-le_self}
pub use native.Mathlib.Nat.{eq-or-lt_of_le, eq-zero-or-pos, le-max_left, le-max_right, le_of_eq, le_of_lt, le_of_suc-le-suc, le_refl, le_trans, lt_of_le_of_lt}
pub use native.Mathlib.Nat.{lt_of_lt_of_le, lt_of_mul-lt-mul_right, lt_of_not-le, min-eq_right, min-le_left, mod-eq_of_lt, mod-lt, mul-add, mul_assoc, mul_comm}
pub use native.Mathlib.Nat.{mul-le-mul, mul-le-mul_left, mul-le-mul_right, mul_left_comm, mul-lt-mul_of_pos_left, not-le_of_lt, not-suc-le-zero, pow-suc}
pub use native.Mathlib.Nat.{pow-succ', suc-add, two-pow-succ, zero-add}
pub use native.Mathlib.Numerals.{add-one}
pub use native.Mathlib.Omega.{arith}

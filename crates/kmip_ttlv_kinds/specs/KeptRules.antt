-- What is known of items that are kept as they are: they agree with themselves.
use Rattle.std.proofs.Common.{◌≡◌, ◌∙◌, ℕ, [], Bool as Boole, true, false, Option, Some, None, refl}
use Rattle.std.proofs.lemmas.Bool.{false≢true}
use Rattle.kmip_ttlv_base.specs.Forms.{any_items}
use Rattle.kmip_ttlv_parts.specs.{Agreements.any_items_agree, declared.kept.Kept.Kept}
use Rattle.kmip_ttlv_parts.specs.KeptItems.{bytes_kept, first_kept, values_kept}
use Rattle.kmip_ttlv_parts.proofs.{KeptLemmas.kept_agree, KeptLemmas.kept_same}
use Rattle.kmip_ttlv_kinds.specs.Parts.{ListRules, StructureRules, is_apart, list_agrees}

-- the items behind the parts of a structure, by the `==` of what holds them
abbrev pub rest_rules : {A : Type 0} (eq : Kept A → Kept A → Boole) → ((x y : Kept A) → bytes_kept x ≡ bytes_kept y → eq x y ≡ true)
    → ListRules (Kept A) any_items values_kept
rest_rules eq equal = record {
  tags = [];
  behind = first_kept;
  ends = false;
  nothing = λ ends x. absurd (false≢true ends);
  fit = true;
  written = values_kept;
  IsSound = λ x. Unit {0};
  Needs = λ x known. Unit {0};
  free = true;
  enough = λ free x known. tt;
  eq = eq;
  agree = λ fit distinct x sound apart known needs.
      let items = kept_agree (bytes_kept x) x.kept in
      record {
        head = items.0;
        other = λ u e first. items.2 u first;
        follows = record { stored = λ k. k; agrees = λ k found. any_items_agree items.1 };
      };
  same = λ x y e. equal x y (kept_same (bytes_kept x) (bytes_kept y) x.kept y.kept e);
}

-- no part stands before them
pub none_before : (o : Option ℕ) → is_apart any_items o ≡ true
none_before None = refl
none_before (Some t) = refl

-- a structure of nothing else
abbrev pub kept_rules : {A : Type 0} (eq : Kept A → Kept A → Boole) → ((x y : Kept A) → bytes_kept x ≡ bytes_kept y → eq x y ≡ true) → StructureRules (Kept A)
kept_rules eq equal =
    let r = rest_rules eq equal in
    record {
      fields = any_items;
      closed = true;
      values = values_kept;
      written = values_kept;
      IsSound = λ x. Unit {0};
      eq = eq;
      agrees = λ n is x sound. list_agrees n true r refl is x sound (none_before (first_kept x)) tt;
      same = r.same;
    }

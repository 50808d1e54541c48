-- What is read of a structure whose tag is a number.
use Rattle.std.proofs.Common.{◌≡◌, ℕ, Bool, true, false, List, [], refl, ◌==◌, if◌then◌else◌, codes}
use Rattle.kmip_ttlv_types.specs.{declared.typ.TtlvType.TtlvType, Digits.tag_text, Places.tag_at}
use Rattle.kmip_ttlv_base.specs.Values.{Value, none_value}
use Rattle.kmip_ttlv_base.specs.Forms.{Fields, Form, option}
use Rattle.kmip_ttlv_reader.specs.{TagValues.TagValue, ReadFaults.in_struct, Spots.field_there, Spots.optional_there}
use Rattle.kmip_ttlv_reader.specs.Reads.{has_tag, is_option, is_struct}
use Rattle.kmip_ttlv_reader.specs.Steps.{Outcome, Reader, gives, reads, ends_early, fails, within, ◌>>=◌}
use Rattle.kmip_ttlv_reader.specs.Outcomes.{type_there, tag_wanted, field_outcome, first_outcome, opened, all_outcome, fields_outcome}
use Rattle.kmip_ttlv_base.proofs.TagNames.{tag_of_number}

-- a message: its name is a tag, so it is read as it stands
pub first_is : (tag : ℕ) (fs : Fields) (deny : Bool) (b : List ℕ)
    → first_outcome (tag_text tag) fs deny (fields_outcome fs) b
    ≡ (opened (tag_text tag) b 0 >>= λ stop. within (tag_at b 0) (all_outcome fs deny (fields_outcome fs) b (tag_at b 0) [] 8 stop) >>= λ rs. gives rs.value)
unfolding first_outcome
first_is tag fs deny b = rw (tag_of_number tag) refl

-- a field that may not be absent is there, and then it is read
pub field_is : (tag : ℕ) (s : Form) (read : Reader Value) (b : List ℕ) (o : ℕ) (k : List TagValue) (p e : ℕ)
    → is_option s ≡ false
    → is_struct s ≡ false
    → field_outcome (tag_text tag) s read b o k p e ≡ (field_there tag b o p e >>= λ u. read b o k p e)
unfolding field_outcome
field_is tag s read b o k p e plain leaf = rw (plain, leaf) (by_end (p == e))
  where
    by_tag : (t : TtlvType) (x : Bool)
        → (if x then read b o k p e else (tag_wanted (tag_text tag) b p t >>= λ u. read b o k p e))
        ≡ ((if x then gives tt else tag_wanted (tag_text tag) b p t) >>= λ u. read b o k p e)
    by_tag t true = refl
    by_tag t false = refl

    by_type : (ty : Outcome TtlvType)
        → (ty >>= λ t. if has_tag (tag_text tag) (tag_at b p) then read b o k p e else (tag_wanted (tag_text tag) b p t >>= λ u. read b o k p e))
        ≡ ((ty >>= λ t. if has_tag (tag_text tag) (tag_at b p) then gives tt else tag_wanted (tag_text tag) b p t) >>= λ u. read b o k p e)
    by_type (gives t) = by_tag t (has_tag (tag_text tag) (tag_at b p))
    by_type ends_early = refl
    by_type (fails x) = refl

    by_end : (x : Bool)
        → (if x then fails (in_struct e o (codes "missing field")) else (type_there b p >>= λ t. if has_tag (tag_text tag) (tag_at b p) then read b o k p e else
        (tag_wanted (tag_text tag) b p t >>= λ u. read b o k p e)))
        ≡ ((if x then fails (in_struct e o (codes "missing field")) else (type_there b p >>= λ t. if has_tag (tag_text tag) (tag_at b p) then gives tt else
        tag_wanted (tag_text tag) b p t)) >>= λ u. read b o k p e)
    by_end true = refl
    by_end false = by_type (type_there b p)

-- a field that may be absent: whether it is there, and then it is read
pub optional_is : (tag : ℕ) (s : Form) (read : Reader Value) (b : List ℕ) (o : ℕ) (k : List TagValue) (p e : ℕ)
    → field_outcome (tag_text tag) (option s) read b o k p e ≡ (optional_there tag b p e >>= λ there. if there then read b o k p e else reads none_value k p)
unfolding field_outcome
optional_is tag s read b o k p e = by_end (p == e)
  where
    by_tag : (x : Bool)
        → (if x then read b o k p e else reads none_value k p) ≡ (gives x >>= λ there. if there then read b o k p e else reads none_value k p)
    by_tag x = refl

    by_type : (ty : Outcome TtlvType)
        → (ty >>= λ t. if has_tag (tag_text tag) (tag_at b p) then read b o k p e else reads none_value k p)
        ≡ ((ty >>= λ t. gives (has_tag (tag_text tag) (tag_at b p))) >>= λ there. if there then read b o k p e else reads none_value k p)
    by_type (gives t) = by_tag (has_tag (tag_text tag) (tag_at b p))
    by_type ends_early = refl
    by_type (fails x) = refl

    by_end : (x : Bool)
        → (if x then reads none_value k p else (type_there b p >>= λ t. if has_tag (tag_text tag) (tag_at b p) then read b o k p e else reads none_value k p))
        ≡ ((if x then gives false else (type_there b p >>= λ t. gives (has_tag (tag_text tag) (tag_at b p)))) >>= λ there. if there then read b o k p e else
        reads none_value k p)
    by_end true = refl
    by_end false = by_type (type_there b p)

-- Each line of the standard's tables can be parsed, so that reading one fails for want of memory alone.
use Rattle.std.proofs.Common.{◌≡◌, ◌||◌, Bool, true, false, List, [], ◌∷◌, ◌++◌, length, ℕ, suc, Option, None, Some, ap, refl, sym, ◌∙◌, append-nil}
use Rattle.std.specs.Prelude.{IfErr, Result, Ok, Err, if◌then◌else◌}
use Rattle.std.specs.Str.{chars, trim_end}
use lib.Utf8.{encode}
use Rattle.kmip_ttlv_types.specs.Names.{number, tag_of}
use Rattle.kmip_ttlv_names.specs.declared.enumerations.TheConstants.{STANDARD_VALUES}
use Rattle.kmip_ttlv_names.specs.declared.masks.TheConstants.{STANDARD_MASKS}
use Rattle.kmip_ttlv_names.specs.declared.secrets.TheConstants.{STANDARD_SECRETS}
use Rattle.kmip_ttlv_names.specs.declared.standard.TheConstants.{STANDARD_TAGS}
use Rattle.kmip_ttlv_names.specs.declared.table.TableError.{TableError}
use Rattle.kmip_ttlv_names.specs.declared.table.TableError.TheVariants.{BadLine, OutOfMemory}
use Rattle.kmip_ttlv_names.specs.NameTables.{line_of, lines_of, is_good, bad_line, IsUnread}
use Rattle.kmip_ttlv_names.specs.OwnNames.{value_line_of, bad_own_from, bad_own_line}

pub secrets_good : bad_line STANDARD_SECRETS.now ≡ None
unfolding bad_line line_of tag_of number trim_end chars encode
secrets_good = refl

pub masks_good : bad_line STANDARD_MASKS.now ≡ None
unfolding bad_line line_of tag_of number trim_end chars encode
masks_good = refl

pub tags_good : bad_line STANDARD_TAGS.now ≡ None
unfolding bad_line line_of tag_of number trim_end chars encode
tags_good = refl

pub values_good : bad_line STANDARD_VALUES.now ≡ None
unfolding bad_line line_of tag_of number trim_end chars encode
values_good = refl

-- reading a table without a bad line fails for want of memory alone
pub only_memory : {T : Type 0} (read : Result T TableError) (table : List ℕ) → bad_line table ≡ None
    → IfErr read (λ e. IsUnread (bad_line table) e) → IfErr read (λ e. e ≡ OutOfMemory)
only_memory (Ok names) table good told = tt
only_memory (Err OutOfMemory) table good told = refl
only_memory (Err (BadLine n)) table good told = let none : None ≡ Some n = sym good ∙ told in cc

-- nor has a table behind that of the standard's tags
none_so : (good : Bool) (n m : ℕ) (now then_ : Option ℕ) → (now ≡ None → then_ ≡ None) → (if good then now else Some n) ≡ None
    → (if good then then_ else Some m) ≡ None
none_so true n m now then_ f h = f h
none_so false n m now then_ f h = absurd cc

own_none : (ls : List (List ℕ)) (n m : ℕ) → bad_own_from n ls ≡ None → bad_own_from m ls ≡ None
own_none [] n m h = refl
own_none (l ∷ ls) n m h =
    none_so (is_good (line_of l) || is_good (value_line_of l)) n m (bad_own_from (suc n) ls) (bad_own_from (suc m) ls) (own_none ls (suc n) (suc m)) h

own_behind : (more : List ℕ) → bad_own_line (STANDARD_TAGS.now ++ more) ≡ bad_own_from (length (lines_of STANDARD_TAGS.now)) (lines_of more)
unfolding bad_own_line line_of tag_of number trim_end chars encode
own_behind more = refl

pub own_good_behind : (more : List ℕ) → bad_own_line more ≡ None → bad_own_line (STANDARD_TAGS.now ++ more) ≡ None
unfolding bad_own_line
own_good_behind more none = own_behind more ∙ own_none (lines_of more) 1 (length (lines_of STANDARD_TAGS.now)) none

pub own_good : bad_own_line STANDARD_TAGS.now ≡ None
unfolding bad_own_line line_of trim_end chars encode
own_good = ap bad_own_line (sym (append-nil STANDARD_TAGS.now)) ∙ own_good_behind [] refl

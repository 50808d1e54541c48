-- Which attributes are as they are sought (KMIP 1.0, section 4.8).
use Rattle.std.specs.Prelude.{ℕ, ℤ, Bool, true, false, if◌then◌else◌, List, Option, Some, None, bytes_eq, codes, int_le, is_some, nat_eq}
use Rattle.std.specs.Int.{int_bit_and, w32}
use Rattle.std.specs.List.{list_all, list_any}
use Rattle.std.specs.Ordering.{int_eq}
use Rattle.kmip_ttlv_parts.specs.declared.enumeration.Enumeration.{Enumeration}
use Rattle.kmip_operations.specs.Listing.{Meaning, a_text, a_name, a_kind, an_algorithm, a_state, a_number, a_date, another, Saying}

-- whether this is meant
abbrev pub is_text : List ℕ → Meaning → Bool
is_text text (a_text x) = bytes_eq x text
is_text text _ = false

abbrev pub is_name : List ℕ → Enumeration 0x420054 → Meaning → Bool
is_name text type (a_name x t) = if bytes_eq x text then nat_eq t.number type.number else false
is_name text type _ = false

abbrev pub is_kind : Enumeration 0x420057 → Meaning → Bool
is_kind kind (a_kind x) = nat_eq x.number kind.number
is_kind kind _ = false

abbrev pub is_algorithm : Enumeration 0x420028 → Meaning → Bool
is_algorithm algorithm (an_algorithm x) = nat_eq x.number algorithm.number
is_algorithm algorithm _ = false

abbrev pub is_state : Enumeration 0x42008D → Meaning → Bool
is_state state (a_state x) = nat_eq x.number state.number
is_state state _ = false

abbrev pub is_number : ℤ → Meaning → Bool
is_number number (a_number x) = int_eq x number
is_number number _ = false

-- whether a mask is meant of which these bits have all
abbrev pub is_mask : ℤ → Meaning → Bool
is_mask bits (a_number mask) = int_eq (int_bit_and w32 mask bits) mask
is_mask bits _ = false

abbrev pub is_date : Meaning → Bool
is_date (a_date x) = true
is_date _ = false

-- whether what is sought is like what an object's attribute of this name means: a mask may have more bits, and a date may be any, since it is
-- compared with the range that is sought
abbrev pub is_like : List ℕ → Meaning → Meaning → Bool
is_like name one (a_text x) = is_text x one
is_like name one (a_name x t) = is_name x t one
is_like name one (a_kind x) = is_kind x one
is_like name one (an_algorithm x) = is_algorithm x one
is_like name one (a_state x) = is_state x one
is_like name one (a_number x) = if bytes_eq name (codes "Cryptographic Usage Mask") then is_mask x one else is_number x one
is_like name one (a_date x) = is_date one
is_like name one another = false

-- whether an object's attribute is one that is sought, whatever its index
unfoldable pub fits : Saying → Saying → Bool
fits one own = if bytes_eq one.name own.name then is_like own.name one.meaning own.meaning else false

-- the date that is meant
abbrev pub date_in : Meaning → Option ℤ
date_in (a_date x) = Some x
date_in _ = None

-- the date that is said under a name
unfoldable pub date_under : List ℕ → Saying → Option ℤ
date_under name one = if bytes_eq one.name name then date_in one.meaning else None

-- whether there is a date, and it is not behind this one, or not before it
abbrev pub is_up_to : ℤ → Option ℤ → Bool
is_up_to date (Some bound) = int_le bound date
is_up_to date None = false

abbrev pub is_from : ℤ → Option ℤ → Bool
is_from date (Some bound) = int_le date bound
is_from date None = false

-- whether a date lies between those that are sought under its name, if there are any
abbrev pub is_in_range : List ℕ → ℤ → List Saying → Bool
is_in_range name date sought =
    if list_any (λ one. is_some (date_under name one)) sought
    then (if list_any (λ one. is_up_to date (date_under name one)) sought then list_any (λ one. is_from date (date_under name one)) sought else false)
    else true

-- the same of an object's attribute, if it is a date
abbrev pub in_range : List ℕ → Meaning → List Saying → Bool
in_range name (a_date x) sought = is_in_range name x sought
in_range name _ sought = true

unfoldable pub is_timely : List Saying → Saying → Bool
is_timely sought own = in_range own.name own.meaning sought

-- whether an object of these attributes has all that are sought
abbrev pub is_sought : List Saying → List Saying → Bool
is_sought sought owned = if list_all (λ one. list_any (λ own. fits one own) owned) sought then list_all (λ own. is_timely sought own) owned else false

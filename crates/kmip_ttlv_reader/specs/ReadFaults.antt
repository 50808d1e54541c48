-- Faults, by where they are found: none has a structure around it yet.
use Rattle.std.specs.Prelude.{ℕ, ◌+◌, List, [], Some, None, codes}
use Rattle.kmip_ttlv_types.specs.declared.typ.TtlvType.{TtlvType}
use Rattle.kmip_ttlv_types.specs.declared.typ.TtlvType.TheVariants.{Structure}
use Rattle.kmip_ttlv_types.specs.Places.{tag_at, code_at}
use Rattle.kmip_ttlv_base.specs.declared.error.MalformedTtlvError.TheVariants as faults
use Rattle.kmip_ttlv_base.specs.Errors.{Kind, malformed, mismatch, other_cause}
use Rattle.kmip_ttlv_reader.specs.Steps.{Fault}

-- so far after the first byte of the item at p
abbrev pub at_item : List ℕ → ℕ → ℕ → TtlvType → Kind → Fault
at_item b p after t why =
    record { why = why; place = record { offset = Some (p + after); parents = []; tag = Some (tag_at b p); typ = Some t } }

-- `Other` with these words, at an offset; its tag is that of the innermost struct
abbrev pub in_struct : ℕ → ℕ → List ℕ → Fault
in_struct offset tag words = record {
  why = mismatch (other_cause words);
  place = record { offset = Some offset; parents = []; tag = Some tag; typ = Some Structure };
}

-- the code of no type
abbrev pub bad_code : List ℕ → ℕ → Fault
bad_code b p = record {
  why = malformed (faults.InvalidType (code_at b p));
  place = record { offset = Some (p + 3); parents = []; tag = Some (tag_at b p); typ = None };
}

-- the item from p to q goes past the end e of the structure around it
abbrev pub overflow : List ℕ → ℕ → ℕ → TtlvType → ℕ → Fault
overflow b p e t q = record {
  why = malformed (faults.Overflow record { 0 = e });
  place = record { offset = Some q; parents = []; tag = Some (tag_at b p); typ = Some t };
}

-- at the first byte, where nothing was read
abbrev pub at_first : Kind → Fault
at_first why = record { why = why; place = record { offset = Some 0; parents = []; tag = None; typ = None } }

-- the item at p has more levels than items of any tags and types may have
abbrev pub too_deep : List ℕ → ℕ → TtlvType → Fault
too_deep b p t = at_item b p 4 t (mismatch (other_cause (codes "too many levels")))

use Rattle.std.proofs.Common.{arith, Some, None, Option, ℕ, ap, sym, ◌∙◌}
use Rattle.std.proofs.lemmas.Str.Pattern.{split_once_first}
use Rattle.kmip_ttlv_types.specs.Names.{number}
use Rattle.kmip_ttlv_names.specs.{NameTables.says_name, OwnNames.named_value}
use Rattle.kmip_ttlv_names.proofs.Owns.{value_none, value_some, word_none, word_some}
use Rattle.kmip_ttlv_names.proofs.own.read_value.Goals as goal

pub returns-in_default : goal.returns-in_default
returns-in_default c =
    let t = c.trim_end-line.result.now in
    value_none c.args.line.now t c.trim_end-line.ensures.trim (split_once_first 32 t None c.in_default.ensures.cases (omega arith))

pub returns-in_default-split_once : goal.returns-in_default-split_once
returns-in_default-split_once c =
    let t = c.trim_end-line.result.now in
    let word = c.in-Some.word.now in
    let h = split_once_first 32 t (Some (c.in-Some.word, c.in-Some.name)) c.in-Some.ensures.cases (omega arith) in
    value_some c.args.line.now t word c.in-Some.name.now c.trim_end-line.ensures.trim h.0 h.1 h.2
    ∙ word_none word c.in-Some.name.now (split_once_first 58 word None c.in_default-split_once.ensures.cases (omega arith))

pub returns-in_default-from_name : goal.returns-in_default-from_name
returns-in_default-from_name c =
    let t = c.trim_end-line.result.now in
    let word = c.in-Some.word.now in
    let name = c.in-Some.name.now in
    let value = c.in-Some-split_once.value.now in
    let h = split_once_first 32 t (Some (c.in-Some.word, c.in-Some.name)) c.in-Some.ensures.cases (omega arith) in
    let k = split_once_first 58 word (Some (c.in-Some-split_once.digits, c.in-Some-split_once.value)) c.in-Some-split_once.ensures.cases (omega arith) in
    value_some c.args.line.now t word name c.trim_end-line.ensures.trim h.0 h.1 h.2
    ∙ word_some word name c.in-Some-split_once.digits.now value k.0 k.1 k.2
    ∙ ap (λ (o : Option ℕ). named_value o (number value) name) (sym c.from_name.ensures ∙ c.in_default-from_name.is)

pub returns-in-Some-number : goal.returns-in-Some-number
returns-in-Some-number c =
    let t = c.trim_end-line.result.now in
    let word = c.in-Some.word.now in
    let name = c.in-Some.name.now in
    let value = c.in-Some-split_once.value.now in
    let h = split_once_first 32 t (Some (c.in-Some.word, c.in-Some.name)) c.in-Some.ensures.cases (omega arith) in
    let k = split_once_first 58 word (Some (c.in-Some-split_once.digits, c.in-Some-split_once.value)) c.in-Some-split_once.ensures.cases (omega arith) in
    value_some c.args.line.now t word name c.trim_end-line.ensures.trim h.0 h.1 h.2
    ∙ word_some word name c.in-Some-split_once.digits.now value k.0 k.1 k.2
    ∙ ap (λ (o : Option ℕ). named_value o (number value) name) (sym c.from_name.ensures ∙ c.in-Some-from_name.is)
    ∙ ap (λ (o : Option ℕ). named_value (Some c.in-Some-from_name.tag) o name) (sym c.number.ensures ∙ c.in-Some-number.is)
    ∙ ap (λ (key : ℕ). says_name key name) (sym c.value_key.ensures)

pub returns-in-None : goal.returns-in-None
returns-in-None c =
    let t = c.trim_end-line.result.now in
    let word = c.in-Some.word.now in
    let name = c.in-Some.name.now in
    let value = c.in-Some-split_once.value.now in
    let h = split_once_first 32 t (Some (c.in-Some.word, c.in-Some.name)) c.in-Some.ensures.cases (omega arith) in
    let k = split_once_first 58 word (Some (c.in-Some-split_once.digits, c.in-Some-split_once.value)) c.in-Some-split_once.ensures.cases (omega arith) in
    value_some c.args.line.now t word name c.trim_end-line.ensures.trim h.0 h.1 h.2
    ∙ word_some word name c.in-Some-split_once.digits.now value k.0 k.1 k.2
    ∙ ap (λ (o : Option ℕ). named_value o (number value) name) (sym c.from_name.ensures ∙ c.in-Some-from_name.is)
    ∙ ap (λ (o : Option ℕ). named_value (Some c.in-Some-from_name.tag) o name) (sym c.number.ensures ∙ c.in-None.is)

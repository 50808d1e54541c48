use Rattle.std.proofs.Common.{arith, ◌∙◌, ℕ, ◌≤◌, List, [], ◌++◌, length, ap, refl, sym, subst}
use Rattle.std.proofs.lemmas.Result.{err_from_is_err_and}
use Rattle.kmip_ttlv_types.specs.Held.{Held, held, Gets}
use Rattle.kmip_ttlv_types.proofs.Held.{gets_none, gets_both}
use Rattle.ttlv_captures.specs.Captures.{NoneBetween, costs, limit}
use Rattle.ttlv_run.specs.declared.{find.Found.TheVariants.Message, find.Found.TheVariants.End, find.Found.TheVariants.Limit}
use Rattle.ttlv_run.specs.Finds.{GivesUpTo, none_given, one_more, GivesNext, BeginsNext, Steps, FindsFront}
use Rattle.ttlv_run.specs.{Kinds.kind_of, Texts.names_of}
use Rattle.ttlv_run.proofs.Appending.{prints_behind}
use Rattle.ttlv_run.proofs.find.print_captures.Goals as goal

pub messages-init : goal.messages-init
messages-init g c =
    let has = held g.W.Sink.emitted g.W.Sink.room c.args.output.now in
    let first = c.new-search.ensures.offset in
    record {
      text = c.new-search.ensures.text;
      given = record {
        text = [];
        gives = subst (λ (k : ℕ). GivesUpTo (names_of c.args.names.now) c.args.look c.args.input.now k []) (sym first) none_given;
        appended = gets_none has;
      };
      found = λ e. absurd cc;
      none = λ _. (first, gets_none has);
    }

pub returns-in_err-print_next : goal.returns-in_err-print_next
returns-in_err-print_next g c =
    let y = err_from_is_err_and c.from_residual.result c.from_residual.ensures.1 in
    let names = names_of c.args.names.now in
    let search = c.messages.search in
    let given = c.messages.invariant.given in
    let f = c.in_err-print_next.ensures.err in
    let broken : FindsFront names c.args.look c.args.input.now (held g.W.Sink.emitted g.W.Sink.room c.args.output.now)
    (held g.W.Sink.emitted g.W.Sink.room c.print_next.new.output) c.in_err-print_next.field-0.0 = record {
      at = search.offset;
      text = given.text;
      part = f.0;
      of_printing = f.1;
      gives = given.gives;
      begun = subst (λ (s : List ℕ). BeginsNext names c.args.look s search.offset f.0) c.messages.invariant.text f.2;
      appended = prints_behind given.text f.0 given.appended f.3;
    } in
    rw (y.1, y.2) broken

pub messages-preserved : goal.messages-preserved
messages-preserved g c =
    let names = names_of c.args.names.now in
    let look = c.args.look in
    let old = c.messages.search in
    let new = c.print_next.new.search in
    let mid = held g.W.Sink.emitted g.W.Sink.room c.messages.output in
    let now = held g.W.Sink.emitted g.W.Sink.room c.print_next.new.output in
    let text = c.messages.invariant.text in
    let given = c.messages.invariant.given in
    let h : Steps names look old new mid now Message = subst (Steps names look old new mid now) c.in-Message.is c.in_ok-print_next.ensures.ok in
    let next = subst (λ (s : List ℕ). GivesNext names look s old.offset new.offset h.0) text h.1 in
    record {
      text = c.in_ok-print_next.ensures.text ∙ text;
      given = record {
        text = given.text ++ h.0;
        gives = one_more old.offset new.offset given.text h.0 (given.text ++ h.0) given.gives next refl;
        appended = gets_both given.text h.0 given.appended h.3;
      };
      found = λ _. omega (arith, h.2);
      none = λ e. absurd cc;
    }

pub returns-in-End : goal.returns-in-End
returns-in-End g c =
    let names = names_of c.args.names.now in
    let look = c.args.look in
    let old = c.messages.search in
    let mid = held g.W.Sink.emitted g.W.Sink.room c.messages.output in
    let now = held g.W.Sink.emitted g.W.Sink.room c.print_next.new.output in
    let given = c.messages.invariant.given in
    let h : Steps names look old c.print_next.new.search mid now End =
    subst (Steps names look old c.print_next.new.search mid now) c.in-End.is c.in_ok-print_next.ensures.ok in
    record {
      at = old.offset;
      text = given.text;
      gives = given.gives;
      some = c.messages.invariant.found c.if-is_found.true;
      no_more = subst (λ (s : List ℕ). NoneBetween s old.offset (length s)) c.messages.invariant.text h.0;
      appended = subst (λ (k : Held). Gets (held g.W.Sink.emitted g.W.Sink.room c.args.output.now) k given.text) (sym h.1) given.appended;
    }

pub returns-in-End-2 : goal.returns-in-End-2
returns-in-End-2 g c =
    let names = names_of c.args.names.now in
    let look = c.args.look in
    let old = c.messages.search in
    let mid = held g.W.Sink.emitted g.W.Sink.room c.messages.output in
    let now = held g.W.Sink.emitted g.W.Sink.room c.print_next.new.output in
    let none = c.messages.invariant.none c.if-is_found.false in
    let h : Steps names look old c.print_next.new.search mid now End =
    subst (Steps names look old c.print_next.new.search mid now) c.in-End.is c.in_ok-print_next.ensures.ok in
    let all = subst (λ (s : List ℕ). NoneBetween s old.offset (length s)) c.messages.invariant.text h.0 in (
      subst (λ (k : ℕ). NoneBetween c.args.input.now k (length c.args.input.now)) none.0 all,
      c.kind_of-kind.ensures ∙ ap kind_of c.tag_there.ensures,
      subst (λ (k : Held). Gets (held g.W.Sink.emitted g.W.Sink.room c.args.output.now) k []) (sym h.1) none.1,
    )

pub returns-in-Limit : goal.returns-in-Limit
returns-in-Limit g c =
    let names = names_of c.args.names.now in
    let look = c.args.look in
    let old = c.messages.search in
    let at = c.in-Limit.offset in
    let mid = held g.W.Sink.emitted g.W.Sink.room c.messages.output in
    let now = held g.W.Sink.emitted g.W.Sink.room c.print_next.new.output in
    let given = c.messages.invariant.given in
    let text = c.messages.invariant.text in
    let h : Steps names look old c.print_next.new.search mid now (Limit at) =
    subst (Steps names look old c.print_next.new.search mid now) c.in-Limit.is c.in_ok-print_next.ensures.ok in (
      old.offset,
      given.text,
      given.gives,
      subst (λ (s : List ℕ). NoneBetween s old.offset at) text h.0,
      subst (λ (s : List ℕ). limit (length s) ≤ costs s at) text h.1,
      subst (λ (k : Held). Gets (held g.W.Sink.emitted g.W.Sink.room c.args.output.now) k given.text) (sym h.2) given.appended,
    )

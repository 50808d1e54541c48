-- Messages that come from a reader, and what goes to a writer and to a log.
use Rattle.std.specs.Prelude.{◌≡◌, ◌⊎◌, Bool, true, false, ℕ, List, [], ◌∷◌, Option, Some, None, Result, Ok, Err, codes}
use Rattle.std.specs.Io.KnownBytes.{Appends}
use Rattle.std.specs.declared.vec.Vec.{Vec}
use Rattle.kmip_ttlv_types.specs.Streams.{AppendsFront}
use Rattle.kmip_ttlv_base.specs.declared.error.Error.{Error}
use Rattle.kmip_ttlv_base.specs.Errors.{Kind, io_error, exceeds_limit, malformed, mismatch, out_of_memory, length_overflow, kind_of, view_of_kind}
use Rattle.kmip_ttlv_de.specs.StreamMessages.{Ends, Leaves}
use Rattle.kmip_messages.specs.declared.envelope.RequestEnvelope.{RequestEnvelope}
use Rattle.kmip_server.specs.declared.reply.NoReply.{NoReply}
use Rattle.kmip_server.specs.declared.serve.End.{End}
use Rattle.kmip_server.specs.declared.serve.End.TheVariants.{Input, Lost}
use Rattle.kmip_server.specs.declared.serve.ServeError.{ServeError}
use Rattle.kmip_server.specs.declared.serve.ServeError.TheVariants as errors
use Rattle.kmip_server.specs.Logs.{IsLine}

-- a server's handler, and what was written and logged, as far as that is known
pub record Desk (H : Type 0) : Type 0 where
  pub handler : H
  pub written : Option (List ℕ)
  pub logged : Option (List ℕ)

-- a server at work: what is left to read, as far as that is known, and the rest
pub record At (H : Type 0) : Type 0 where
  pub left : Option (List ℕ)
  pub desk : Desk H

-- whether a message ends before it came whole, by the kind of the error: the input ended or failed, or memory ran out
abbrev pub is_cut_by : Kind → Bool
is_cut_by (io_error e) = true
is_cut_by out_of_memory = true
is_cut_by (exceeds_limit n) = false
is_cut_by (malformed e) = false
is_cut_by (mismatch e) = false
is_cut_by length_overflow = false

-- whether there is nothing to answer: what was read is an error of that kind, and the reader isn't left behind a whole message
abbrev pub is_silent : {T A : Type 0} → Result T (Error A) → Bool → Bool
is_silent r true = false
is_silent (Ok x) false = false
is_silent (Err e) false = is_cut_by (view_of_kind (kind_of e))

-- how the serving ends behind a message that was answered: not at all if the reader is left between two messages, otherwise the stream is lost
abbrev pub end_behind : Bool → Option End
end_behind true = None
end_behind false = Some Lost

-- a line about these bytes is logged
pub record Logs (who bytes : List ℕ) (old new : Option (List ℕ)) : Type 0 where
  pub line : List ℕ
  pub is : IsLine who bytes line
  pub appends : Appends old new line

-- a beginning of such a line is logged, or nothing
abbrev pub LogsFront : List ℕ → List ℕ → Option (List ℕ) → Option (List ℕ) → Type 0
LogsFront who bytes old new = (new ≡ old) ⊎ ((line : List ℕ) × IsLine who bytes line × AppendsFront old new line)

-- a line is logged, or the log fails
abbrev pub IsNoted : {A : Type 0} → List ℕ → List ℕ → Option (List ℕ) → Result (Unit {0}) (ServeError A) → Option (List ℕ) → Type 0
IsNoted who bytes old (Ok done) new = Logs who bytes old new
IsNoted who bytes old (Err (errors.Log e)) new = LogsFront who bytes old new
IsNoted who bytes old (Err e) new = ⊥

-- bytes are written, or the writer fails after a beginning of them
abbrev pub IsSentTo : {A : Type 0} → List ℕ → Option (List ℕ) → Result (Unit {0}) (ServeError A) → Option (List ℕ) → Type 0
IsSentTo bytes old (Ok done) new = Appends old new bytes
IsSentTo bytes old (Err (errors.Writer e)) new = AppendsFront old new bytes
IsSentTo bytes old (Err e) new = ⊥

module _ {H A : Type 0} (Sends : H → Result (RequestEnvelope A) (Error A) → Result (Vec ℕ A) (NoReply A) → H → Type 0) where
  -- a message has these bytes as its response, and both have their lines in the log
  pub record IsLogged (old : Desk H) (read : Result (RequestEnvelope A) (Error A)) (came : List ℕ) (bytes : Vec ℕ A) (new : Desk H) : Type 0 where
    pub sends : Sends old.handler read (Ok bytes) new.handler
    pub between : Option (List ℕ)
    pub asked : Logs (codes "> ") came old.logged between
    pub answered : Logs (codes "< ") bytes.items between new.logged

  -- a message is answered: its response is written, and nothing else
  pub record IsAnswered (old : Desk H) (read : Result (RequestEnvelope A) (Error A)) (came : List ℕ) (new : Desk H) : Type 0 where
    pub bytes : Vec ℕ A
    pub logged : IsLogged old read came bytes new
    pub writes : Appends old.written new.written bytes.items

  -- the writer fails: at most a beginning of the response is written
  pub record IsCutShort (old : Desk H) (read : Result (RequestEnvelope A) (Error A)) (came : List ℕ) (new : Desk H) : Type 0 where
    pub bytes : Vec ℕ A
    pub logged : IsLogged old read came bytes new
    pub writes : AppendsFront old.written new.written bytes.items

  -- there is no response: nothing is written
  pub record HasNoReply (old : Desk H) (read : Result (RequestEnvelope A) (Error A)) (came : List ℕ) (why : NoReply A) (new : Desk H) : Type 0 where
    pub asked : Logs (codes "> ") came old.logged new.logged
    pub sends : Sends old.handler read (Err why) new.handler
    pub unwritten : new.written ≡ old.written

  -- the log fails at the line of the request, of which nothing is done, or at that of the response: nothing is written
  pub record LosesAsked (old : Desk H) (came : List ℕ) (new : Desk H) : Type 0 where
    pub asked : LogsFront (codes "> ") came old.logged new.logged
    pub undone : new.handler ≡ old.handler
    pub unwritten : new.written ≡ old.written

  pub record LosesAnswered (old : Desk H) (read : Result (RequestEnvelope A) (Error A)) (came : List ℕ) (new : Desk H) : Type 0 where
    pub bytes : Vec ℕ A
    pub sends : Sends old.handler read (Ok bytes) new.handler
    pub between : Option (List ℕ)
    pub asked : Logs (codes "> ") came old.logged between
    pub answered : LogsFront (codes "< ") bytes.items between new.logged
    pub unwritten : new.written ≡ old.written

  -- why a message is not answered, and what was done till then
  abbrev pub Breaks : Desk H → Result (RequestEnvelope A) (Error A) → List ℕ → ServeError A → Desk H → Type 0
  Breaks old read came (errors.Writer e) new = IsCutShort old read came new
  Breaks old read came (errors.NoReply e) new = HasNoReply old read came e new
  Breaks old read came (errors.Log e) new = LosesAsked old came new ⊎ LosesAnswered old read came new
  Breaks old read came errors.Count new = ⊥

  -- a message is answered, or not
  abbrev pub IsDealtWith : Desk H → Result (RequestEnvelope A) (Error A) → List ℕ → Result (Unit {0}) (ServeError A) → Desk H → Type 0
  IsDealtWith old read came (Ok done) new = IsAnswered old read came new
  IsDealtWith old read came (Err e) new = Breaks old read came e new

  -- how a message is dealt with: if there is nothing to answer, the serving ends, and nothing is done, written or logged
  abbrev pub Reacts : Bool → Bool → Desk H → Result (RequestEnvelope A) (Error A) → Option (List ℕ) → Option End → Desk H → Type 0
  Reacts true between old read message end new = (new ≡ old) × (end ≡ Some Input)
  Reacts false between old read message end new = ((came : List ℕ) × (message ≡ Some came) × IsAnswered old read came new) × (end ≡ end_behind between)

-- message by message: each leads to the next
abbrev pub Leads : {S : Type 0} → (S → S → Type 0) → S → List S → S → Type 0
Leads Next first [] here = here ≡ first
Leads Next first (mid ∷ mids) here = Next first mid × Leads Next mid mids here

module _ {H A : Type 0} (answers : List ℕ → Result (RequestEnvelope A) (Error A) → Type 0)
    (Sends : H → Result (RequestEnvelope A) (Error A) → Result (Vec ℕ A) (NoReply A) → H → Type 0) (can_fail : Bool) (limit : Option ℕ) where
  -- One message: what is read of the stream, and no byte more; its one answer; and whether the serving ends
  pub record Turns (old : At H) (end : Option End) (new : At H) : Type 0 where
    pub read : Result (RequestEnvelope A) (Error A)
    pub between : Bool
    pub message : Option (List ℕ)
    pub reads : Ends answers can_fail limit old.left new.left message read
    pub leaves : Leaves can_fail limit old.left new.left message between read
    pub reacts : Reacts Sends (is_silent read between) between old.desk read message end new.desk

  -- One message that is not answered: what is read of the stream, and no byte more, and what was done till then
  pub record Stops (old : At H) (error : ServeError A) (new : At H) : Type 0 where
    pub read : Result (RequestEnvelope A) (Error A)
    pub between : Bool
    pub came : List ℕ
    pub reads : Ends answers can_fail limit old.left new.left (Some came) read
    pub leaves : Leaves can_fail limit old.left new.left (Some came) between read
    pub is_due : is_silent read between ≡ false
    pub breaks : Breaks Sends old.desk read came error new.desk

  -- one message, whatever comes of it
  abbrev pub HandlesMessage : At H → Result (Option End) (ServeError A) → At H → Type 0
  HandlesMessage old (Ok end) new = Turns old end new
  HandlesMessage old (Err e) new = Stops old e new

  -- the last message, which ends the serving or isn't answered; or as many messages came as can be counted
  abbrev pub IsLast : Result End (ServeError A) → At H → At H → Type 0
  IsLast (Ok end) old new = Turns old (Some end) new
  IsLast (Err errors.Count) old new = new ≡ old
  IsLast (Err e) old new = Stops old e new

  -- From first on messages are answered one after the other, and then comes the last
  pub record Serves (first : At H) (result : Result End (ServeError A)) (last : At H) : Type 0 where
    pub answered : List (At H)
    pub here : At H
    pub leads : Leads (λ old new. Turns old None new) first answered here
    pub last_is : IsLast result here last

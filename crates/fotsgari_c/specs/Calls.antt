-- Calls of C, as the rules have them.
--   verdict_of n         — the verdict of the number n
--   picks_of rs i n      — the n records of rs from the place i on
--   Picks rs i n r       — r are these records, or what is wrong with them
--   record_at rs i       — the record of rs at the place i
--   given_with a k       — the call k of what a gave, or what is wrong with it
--   vote m i s n         — the call of the number m, of the four with a verdict, where the verdict has the number n
--   merging_call m rs a  — the call of the number m with the arguments a, of the two with picks
--   reading rs m a       — the call of the number m with the arguments a, where rs are the records
--   read rs c            — the call that c stands for, or what is wrong with it
--   meant a              — the call a of code, as the rules have it, or what is wrong with it
--   before a r           — a and then the list r, or the first thing that is wrong with them
--   each f xs            — what f gives for each of xs, or what is wrong with the first for which it gives nothing
--   read_all rs cs       — the calls that cs stand for, or what is wrong with the first that stands for none
--   IsFault a e          — e is what is wrong with a, or a lack of memory
--   ReadsAll rs cs r     — r are turns, still to come, with the calls that cs stand for, or else a fault
use Rattle.std.specs.Prelude.{◌≡◌, ℕ, ◌+◌, cond, ◌&&◌, ◌⊎◌, List, [], ◌∷◌, length, take, drop, Ok, Err, Result, ◌==◌, nat_le, slice_index, slice_get}
use Rattle.std.specs.Borrow.{Bor}
use Rattle.std.specs.Global.{Vec}
use Rattle.std.specs.Option.{ok_or}
use Rattle.record.specs.declared.Record.{Record}
use Rattle.replica.specs.declared.Verdict.{Verdict}
use Rattle.replica.specs.declared.Verdict.TheVariants.{Operation, NoOp}
use Rattle.protocol.specs.Call as rules
use Rattle.life.specs.Calls.{call_of, calls_of}
use Rattle.life.specs.declared.call.Call as life
use Rattle.life.specs.declared.call.Turn.{Turn}
use Rattle.fotsgari_c.specs.declared.call.Call as c
use Rattle.fotsgari_c.specs.declared.fault.Fault.{Fault}
use Rattle.fotsgari_c.specs.declared.fault.Fault.TheVariants as fault

abbrev pub verdict_of : ℕ → Result Verdict Fault
verdict_of n = cond (n == 0) (Ok Operation) (cond (n == 1) (Ok NoOp) (Err fault.Verdict))

abbrev pub picks_of : List Record → ℕ → ℕ → Result (List Record) Fault
picks_of rs i n = cond (nat_le (i + n) (length rs)) (Ok (take n (drop i rs))) (Err fault.Records)

abbrev pub Picks : List Record → ℕ → ℕ → Result (Bor (List Record)) Fault → Type 0
Picks rs i n (Ok ps) = picks_of rs i n ≡ Ok ps.now
Picks rs i n (Err e) = picks_of rs i n ≡ Err e

abbrev pub record_at : List Record → ℕ → Result Record Fault
record_at rs i = ok_or (slice_get rs i) fault.Records

abbrev pub given_with : {A : Type 0} → Result A Fault → (A → rules.Call) → Result rules.Call Fault
given_with (Ok a) k = Ok (k a)
given_with (Err e) k = Err e

abbrev pub vote : (m i s n : ℕ) → Result rules.Call Fault
vote m i s n =
    given_with (verdict_of n) (λ d.
    cond (m == 5) (rules.Decide i s d)
    (cond (m == 6) (rules.Prepare i s d)
    (cond (m == 7) (rules.Commit i s d) (rules.Settle i s d))))

abbrev pub merging_call : ℕ → List Record → List ℕ → Result rules.Call Fault
merging_call m rs a =
    given_with (picks_of rs (slice_index a 1) (slice_index a 2)) (λ ps.
    cond (m == 12) (rules.Lead (slice_index a 0) ps (slice_index a 3) (slice_index a 4))
    (rules.Start (slice_index a 0) ps (slice_index a 3) (slice_index a 4)))

abbrev pub reading : List Record → ℕ → List ℕ → Result rules.Call Fault
reading rs m a =
    cond (m == 1) (Ok (rules.Stamp (slice_index a 0)))
    (cond (m == 2) (Ok (rules.Deliver (slice_index a 0) (slice_index a 1)))
    (cond (m == 3) (Ok (rules.Find (slice_index a 0)))
    (cond (m == 4) (Ok (rules.Drop (slice_index a 0)))
    (cond (nat_le 5 m && nat_le m 8) (vote m (slice_index a 0) (slice_index a 1) (slice_index a 2))
    (cond (m == 9) (Ok (rules.Reply (slice_index a 0) (slice_index a 1)))
    (cond (m == 10) (Ok (rules.Leave (slice_index a 0) (slice_index a 1)))
    (cond (m == 11) (given_with (record_at rs (slice_index a 0)) (λ r. rules.Forge r))
    (cond (nat_le 12 m && nat_le m 13) (merging_call m rs a)
    (cond (m == 14) (Ok (rules.Enter (slice_index a 0) (slice_index a 1) (slice_index a 2) (slice_index a 3)))
    (cond (m == 15) (Ok (rules.AskAnswer (slice_index a 0) (slice_index a 1) (slice_index a 2) (slice_index a 3) (slice_index a 4)))
    (cond (m == 16) (Ok (rules.AskNoOp (slice_index a 0) (slice_index a 1) (slice_index a 2))) (Err fault.CallNumber))))))))))))

abbrev pub read : List Record → c.Call → Result rules.Call Fault
read rs c = reading rs c.number c.arguments

abbrev pub meant : Result life.Call Fault → Result rules.Call Fault
meant (Ok k) = Ok (call_of k)
meant (Err e) = Err e

abbrev pub before : {A : Type 0} → Result A Fault → Result (List A) Fault → Result (List A) Fault
before (Ok a) (Ok bs) = Ok (a ∷ bs)
before (Ok a) (Err e) = Err e
before (Err e) r = Err e

abbrev pub each : {A B : Type 0} → (A → Result B Fault) → List A → Result (List B) Fault
each f [] = Ok []
each f (x ∷ xs) = before (f x) (each f xs)

abbrev pub read_all : List Record → List c.Call → Result (List rules.Call) Fault
read_all rs cs = each (λ c. read rs c) cs

abbrev pub IsFault : Result (List rules.Call) Fault → Fault → Type 0
IsFault a e = (e ≡ fault.Memory) ⊎ (a ≡ Err e)

abbrev pub ReadsAll : List Record → List c.Call → Result (Vec Turn) Fault → Type 0
ReadsAll rs cs (Ok ts) = read_all rs cs ≡ Ok (calls_of ts.items)
ReadsAll rs cs (Err e) = IsFault (read_all rs cs) e

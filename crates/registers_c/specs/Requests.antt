-- Requests to a register, as C has them, and what comes of them. Throughout, s is the set of the register, and n the number of its free places.
--   entering_outcome a         — the outcome of entering a statement that was answered a
--   entering_value a           — its value: of a refusal the number of the ground
--   request_outcome s n t      — the outcome of the request t, where it does not look whether the register is empty
--   request_value s n t        — its value
--   TellsEmptiness s o v       — o and v are the outcome and the value of a request that looks whether the register is empty
--   TellsOther s n t o v       — o and v are those of the request t, where it does not
--   Came s n t o v             — the request t came to the outcome o and the value v
--   held_then s n t            — the set after the request t
--   free_then s n t            — the number of free places after it
--   addition_here s n t        — the statement that the request t adds, if it adds one
--   additions_of s n ts        — the statements that the requests ts, made in turn, add, in order
--   with_outcome t o v         — the request t with the outcome o and the value v
--   Served s n t t'            — the request t was made, and is t' with what came of it
--   Uses s n ts us s' n'       — the requests ts were made in turn, and are us with what came of them; s' and n' are the set and the number of free places then
--   UsesEmpty n ts us          — the same, from an empty register with n free places
--   Serves g old t r new       — the request t was made of the register old, which is new now, and r is its outcome and its value; g tells of a register of this type
--   ServesAll g old ts us new  — likewise the requests ts, in turn, which are us with what came of them
use Rattle.std.specs.Prelude.{◌≡◌, ℕ, Bool, cond, MatchBool, List, [], ◌∷◌, ◌++◌, Ok, Err, ◌==◌}
use Rattle.std.specs.List.{fold}
use Rattle.refusal.specs.Grounds.{Answer, ground_number}
use Rattle.record.specs.declared.Record.{Record}
use Rattle.register.specs.Sets.{Set, nothing, Emptiness, entering, addition, held_after, free_after}
use Rattle.register.specs.declared.Register.{Ghosts}
use Rattle.quorum.specs.Quorums.{count, said}
use Rattle.registers_c.specs.declared.request.Request.{Request}

abbrev pub entering_outcome : Answer → ℕ
entering_outcome (Ok _) = 1
entering_outcome (Err e) = 4

abbrev pub entering_value : Answer → ℕ
entering_value (Ok _) = 0
entering_value (Err e) = ground_number e.ground

abbrev pub request_outcome : Set → ℕ → Request → ℕ
request_outcome s n t =
    cond (t.number == 1) (cond (s t.statement) 2 3)
    (cond (t.number == 3) (entering_outcome (entering s n t.statement))
    (cond (t.number == 4) 5 0))

abbrev pub request_value : Set → ℕ → Request → ℕ
request_value s n t =
    cond (t.number == 3) (entering_value (entering s n t.statement))
    (cond (t.number == 4) (count t.replicas (said s t.statement)) 0)

pub record TellsEmptiness (s : Set) (o v : ℕ) : Type 0 where
  pub empty : Bool
  pub tells : Emptiness s empty
  pub outcome : o ≡ cond empty 2 3
  pub value : v ≡ 0

pub record TellsOther (s : Set) (n : ℕ) (t : Request) (o v : ℕ) : Type 0 where
  pub outcome : o ≡ request_outcome s n t
  pub value : v ≡ request_value s n t

abbrev pub Came : Set → ℕ → Request → ℕ → ℕ → Type 0
Came s n t o v = MatchBool (t.number == 2) (TellsEmptiness s o v) (TellsOther s n t o v)

abbrev pub held_then : Set → ℕ → Request → Set
held_then s n t = cond (t.number == 3) (held_after s n t.statement) s

abbrev pub free_then : Set → ℕ → Request → ℕ
free_then s n t = cond (t.number == 3) (free_after s n t.statement) n

abbrev pub addition_here : Set → ℕ → Request → List Record
addition_here s n t = cond (t.number == 3) (addition s n t.statement) []

abbrev pub additions_of : Set → ℕ → List Request → List Record
additions_of s n [] = []
additions_of s n (t ∷ ts) = addition_here s n t ++ additions_of (held_then s n t) (free_then s n t) ts

abbrev pub with_outcome : Request → ℕ → ℕ → Request
with_outcome t o v = record t { outcome = o; value = v }

pub record Served (s : Set) (n : ℕ) (t t' : Request) : Type 0 where
  pub is : t' ≡ with_outcome t t'.outcome t'.value
  pub came : Came s n t t'.outcome t'.value

abbrev pub Uses : Set → ℕ → List Request → List Request → Set → ℕ → Type 0
Uses s n [] [] s' n' = (s' ≡ s) × (n' ≡ n)
Uses s n (t ∷ ts) (u ∷ us) s' n' = Served s n t u × Uses (held_then s n t) (free_then s n t) ts us s' n'
Uses s n ts us s' n' = ⊥

pub record UsesEmpty (n : ℕ) (ts us : List Request) : Type 0 where
  -- set and free places at the end
  pub held : Set
  pub free : ℕ
  pub uses : Uses nothing n ts us held free

-- a register of any type was old and is new now
module _ {R : Type 0} (g : Ghosts R) (old : R) where
  pub record Serves (t : Request) (r : ℕ × ℕ) (new : R) : Type 0 where
    pub came : Came (g.held old) (g.free old) t r.0 r.1
    pub held : g.held new ≡ held_then (g.held old) (g.free old) t
    pub free : g.free new ≡ free_then (g.held old) (g.free old) t
    pub memory : g.memory new ≡ fold g.stores (g.memory old) (addition_here (g.held old) (g.free old) t)

  pub record ServesAll (ts us : List Request) (new : R) : Type 0 where
    pub uses : Uses (g.held old) (g.free old) ts us (g.held new) (g.free new)
    pub memory : g.memory new ≡ fold g.stores (g.memory old) (additions_of (g.held old) (g.free old) ts)

-- What it is for every call to keep the rules: it makes a move that they allow, or none; and it is refused on its own grounds, or since the register is full.
--   model x               — a bench's state, without its storage
--   MovesByRules u V x y  — the state x goes to y by a move that the rules allow
--   OwnOrFull m           — if the call with the meaning m is refused, then on its own grounds, or since the register is full
--   KeepsRules y          — however long the life y has gone on, whatever call is put next makes such a move
--   RefusesOwnOrFull y    — however long the life y has gone on, whatever call is put next is refused so, if at all: no honest replica says what breaks the layout
use Rattle.std.specs.Prelude.{◌≡◌, ℕ, ◌⊎◌, Err}
use Rattle.refusal.specs.Grounds.{refused}
use Rattle.refusal.specs.declared.Ground.TheVariants.{RegisterFull}
use Rattle.refusal.specs.declared.Refusal.{Refusal}
use Rattle.protocol.specs.Setup.{Setup}
use Rattle.protocol.specs.Service.{Service}
use Rattle.protocol.specs.State.{State, replica_at}
use Rattle.protocol.specs.Call.{Call, Meaning, Refused, meaning}
use Rattle.protocol.specs.Life.{Life, state_at}
use Rattle.protocol.specs.Model.{Model, Move, apply, InLayout}
use Rattle.protocol.specs.Rules.{Allowed}

abbrev pub model : State → Model
model x = record { stamped = x.stamped; held = x.held; replica = λ i. replica_at x i }

pub record MovesByRules (u : Setup) (V : Service) (x y : State) : Type 0 where
  pub move : Move
  pub allowed : Allowed u V (model x) move
  pub in_layout : InLayout move
  pub moves : model y ≡ apply (model x) move

abbrev pub KeepsRules : Life → Type 0
KeepsRules y =
    (k : ℕ) (c : Call)
    → MovesByRules y.bench y.service (state_at y k) (meaning y.bench y.service (state_at y k) c).after

pub record OwnOrFull (m : Meaning) : Type 0 where
  pub either : (e : Refusal) → m.outcome ≡ Refused e → (m.own ≡ Err e) ⊎ (e ≡ refused RegisterFull 0)

abbrev pub RefusesOwnOrFull : Life → Type 0
RefusesOwnOrFull y = (k : ℕ) (c : Call) → OwnOrFull (meaning y.bench y.service (state_at y k) c)

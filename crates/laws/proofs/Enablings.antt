-- Nothing but an enabling leaves a channel enabled that has accepted a control byte. Assumes nothing.
use Rattle.std.proofs.Common.{◌≡◌, ℕ, ◌+◌, true, ◌⊎◌, List, [], ◌∷◌, ◌++◌, length, Ok, Err, Result, sym, refl, ap, ◌∙◌, inl, inr, arith}
use Rattle.registers.specs.declared.chip.Chip.{Chip}
use Rattle.registers.specs.declared.fault.ChannelFault.{ChannelFault}
use Rattle.registers.specs.declared.outcome.Outcome.TheVariants.{WroteTable}
use Rattle.registers.specs.Calls.{State, write_call, table_call, write_outcome, does}
use Rattle.registers.specs.Kept.{Kept}
use Rattle.registers.specs.Writes.{wrote, table_next, table_did}
use Rattle.laws.specs.Enabling.{EnabledBy, Accepted, RefusedNext, EnabledByTable, bytes_accepted, OnlyEnablingsEnable}
use Rattle.laws.proofs.Enabled.{accepted_kept}
use Rattle.laws.proofs.Writes.{wrote_kept}

byte_enables : (b : ℕ) (x y : Chip) → Kept x.registers → wrote b x ≡ Ok y → y.registers.progress.enabled ≡ true → EnabledBy b x y
byte_enables b x y k e on = let w = (wrote_kept b x y k e).only_by on in assumption

-- A TABLE

-- its last accepted byte finds the channel x and leaves y
record LastAccepted (bs : List ℕ) (first y : Chip) : Type 0 where
  x : Chip
  front : List ℕ
  byte : ℕ
  back : List ℕ
  is : bs ≡ front ++ (byte ∷ back)
  before : Accepted front first x
  accepted : wrote byte x ≡ Ok y
  after : RefusedNext back y

-- none is accepted, or one is the last
abbrev TableTook : List ℕ → Chip → Chip → Type 0
TableTook bs x y = ((y ≡ x) × RefusedNext bs x) ⊎ LastAccepted bs x y

one_more : (b : ℕ) (bs : List ℕ) (x z y : Chip) → wrote b x ≡ Ok z → TableTook bs z y → LastAccepted (b ∷ bs) x y
one_more b bs x z y e (inl n) = record { x = x; front = []; byte = b; back = bs; is = refl; before = refl; accepted = e ∙ ap Ok (sym n.0); after = rw n.0 n.1 }
one_more b bs x z y e (inr l) =
    let q = l.is in
    record { x = l.x; front = b ∷ l.front; byte = l.byte; back = l.back; is = ap (λ bs. b ∷ bs) q; before = (z, e, l.before); accepted = l.accepted; after = l.after }

table_took : (i : ℕ) (bs : List ℕ) (x : Chip) → TableTook bs x (table_did i bs x).chip
unfolding table_did table_next
table_took i [] x = inl (refl, tt)
table_took i (b ∷ bs) x = let h = λ (z : Chip). table_took (i + 1) bs z in grind (arith, one_more)

refused_none : (bs : List ℕ) (x : Chip) → RefusedNext bs x → bytes_accepted (length bs) (WroteTable (table_did 0 bs x).answer) ≡ 0
unfolding table_did table_next
refused_none bs x r = grind arith

table_enables : (bs : List ℕ) (x y : Chip) → Kept x.registers → ((y ≡ x) × RefusedNext bs x → ⊥) → y.registers.progress.enabled ≡ true → TableTook bs x y → (z : Chip) × EnabledByTable bs x z y
table_enables bs x y k n on (inl r) = absurd (n r)
table_enables bs x y k n on (inr l) =
    let e = byte_enables l.byte l.x y (accepted_kept l.front x l.x k l.before) l.accepted on in
    (l.x, search)

-- EVERY CALL

write_enables : (b : ℕ) (v : Result Chip ChannelFault) (s : State) → wrote b s.chip ≡ v → Kept s.chip.registers → (bytes_accepted 1 (write_outcome v s).outcome ≡ 0 → ⊥) → (write_outcome v s).state.chip.registers.progress.enabled ≡ true → EnabledBy b s.chip (write_outcome v s).state.chip
unfolding write_outcome
write_enables b (Ok y) s e k n on = byte_enables b s.chip y k e on
write_enables b (Err f) s e k n on = absurd (n refl)

pub only_enablings_enable : OnlyEnablingsEnable
unfolding does
only_enablings_enable s (write_call b) k n on = (s.chip, (refl, write_enables b (wrote b s.chip) s refl k n on))
only_enablings_enable s (table_call bs) k n on = table_enables bs s.chip _ k (λ r. n (refused_none bs s.chip r.1)) on (table_took 0 bs s.chip)
only_enablings_enable s _ k n on = absurd (n refl)

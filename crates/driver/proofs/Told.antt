-- What a wait hands back where its acts follow others: it tells all of them from the start.
use Rattle.std.proofs.Common.{◌≡◌, ℕ, ◌+◌, List, ap, ◌∙◌}
use Rattle.codes.specs.Part.{Part}
use Rattle.frames.specs.Play.{Act, FrameBench}
use Rattle.sequence.proofs.Joined.{Follows}
use Rattle.driver.specs.Told.{Told}
use Rattle.driver.specs.declared.waiting.Waited.{Waited}

-- what a wait hands back, beside the n frames before it
pub told : (P : Part) (all : List Act) (d : FrameBench) (rest : List Act) (x : FrameBench) (n : ℕ) → Follows P all d rest x n
    → (w r : Waited) (m i : List ℕ) → Told P rest x w m i → r ≡ record { status = w.status; core = w.core; frames = w.frames + n }
    → Told P all d r m i
told P all d rest x n f w r m i t e =
    let core = t.0 ∙ ap (λ (y : FrameBench). y.core) f.leaves in
    let frames = ap (λ (k : ℕ). k + n) t.1.1.0 ∙ f.counts in
    let memory = t.1.1.1.0 ∙ ap (λ (y : FrameBench). y.memory) f.leaves in
    let page = t.1.1.1.1 ∙ ap (λ (y : FrameBench). y.identification) f.leaves in
    rw e (core, (t.1.0, (frames, (memory, page))))

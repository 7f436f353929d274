-- What no call changes, over several calls.
use Rattle.std.proofs.Common.{◌≡◌, ◌∙◌, refl}
use Rattle.lt_io.specs.FilesState.{FilesState, KeepsNames, KeepsFiles}
use Rattle.lt_io.specs.SinkState.{SinkState, KeepsSink}
use Rattle.lt_io.specs.FabricState.{FabricState, KeepsPromises, KeepsFabric, SameLists}

pub files_refl : (s : FilesState) → KeepsFiles s s
files_refl s = record { sound = refl; told = refl; named = refl; visits = refl }

pub files_trans : (a b c : FilesState) → KeepsFiles a b → KeepsFiles b c → KeepsFiles a c
files_trans a b c first next = record {
  sound = next.sound ∙ first.sound;
  told = next.told ∙ first.told;
  named = next.named ∙ first.named;
  visits = next.visits ∙ first.visits;
}

-- what no call but `open` changes has what no call changes
pub names_kept : (a b : FilesState) → KeepsFiles a b → KeepsNames a b
names_kept a b keeps = record { sound = keeps.sound; told = keeps.told; named = keeps.named }

pub names_refl : (s : FilesState) → KeepsNames s s
names_refl s = record { sound = refl; told = refl; named = refl }

pub names_trans : (a b c : FilesState) → KeepsNames a b → KeepsNames b c → KeepsNames a c
names_trans a b c first next = record { sound = next.sound ∙ first.sound; told = next.told ∙ first.told; named = next.named ∙ first.named }

pub sink_refl : (s : SinkState) → KeepsSink s s
sink_refl s = record { sound = refl; told = refl }

pub sink_trans : (a b c : SinkState) → KeepsSink a b → KeepsSink b c → KeepsSink a c
sink_trans a b c first next = record { sound = next.sound ∙ first.sound; told = next.told ∙ first.told }

pub fabric_refl : (s : FabricState) → KeepsFabric s s
fabric_refl s = record { faithful = refl; sound = refl; told = refl; prompt = λ prompt. prompt; opens = refl; kinds = refl }

pub fabric_trans : (a b c : FabricState) → KeepsFabric a b → KeepsFabric b c → KeepsFabric a c
fabric_trans a b c first next = record {
  faithful = next.faithful ∙ first.faithful;
  sound = next.sound ∙ first.sound;
  told = next.told ∙ first.told;
  prompt = λ prompt. next.prompt (first.prompt prompt);
  opens = next.opens ∙ first.opens;
  kinds = next.kinds ∙ first.kinds;
}

-- what no call but `open` changes has what no call changes
pub promises_kept : (a b : FabricState) → KeepsFabric a b → KeepsPromises a b
promises_kept a b keeps = record { faithful = keeps.faithful; sound = keeps.sound; told = keeps.told; prompt = keeps.prompt }

pub promises_refl : (s : FabricState) → KeepsPromises s s
promises_refl s = promises_kept s s (fabric_refl s)

pub promises_trans : (a b c : FabricState) → KeepsPromises a b → KeepsPromises b c → KeepsPromises a c
promises_trans a b c first next = record {
  faithful = next.faithful ∙ first.faithful;
  sound = next.sound ∙ first.sound;
  told = next.told ∙ first.told;
  prompt = λ prompt. next.prompt (first.prompt prompt);
}

pub lists_refl : (s : FabricState) → SameLists s s
lists_refl s = record { kinds = refl; transit = λ c. refl; sent = λ _ c. refl; delivered = λ _ c. refl }

-- where both calls keep that the lists are told
pub lists_trans : (a b c : FabricState) → b.told ≡ a.told → SameLists a b → SameLists b c → SameLists a c
lists_trans a b c told first next = record {
  kinds = next.kinds ∙ first.kinds;
  transit = λ i. next.transit i ∙ first.transit i;
  sent = λ tells i. next.sent (told ∙ tells) i ∙ first.sent tells i;
  delivered = λ tells i. next.delivered (told ∙ tells) i ∙ first.delivered tells i;
}

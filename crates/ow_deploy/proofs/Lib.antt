pub mod ValueLaws
pub mod DraftLaws
pub mod ManifestLaws
pub mod EntryLaws

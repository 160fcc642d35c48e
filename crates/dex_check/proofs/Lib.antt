mod FlawLaws
mod CopyLaws
mod WalletLaws
mod RowLaws
